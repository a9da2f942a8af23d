use Rattle.std.proofs.Common.{rules, sym, subst}
use Rattle.std.proofs.lemmas.Fn.{always_returns_same}
use Rattle.store_trait.specs.Names.{name_cmp}
use Rattle.store_trait.specs.declared.name.Name.TheVariants as name
use Rattle.listed_cells.specs.Listing.{StandsAt}
use Rattle.listed_cells.proofs.Listings.{placed}
use Rattle.listed_cells.proofs.cells.doc_place.Goals as goal

pub returns : goal.returns
returns c =
    let by_name = c.binary_search_by.ensures.position (λ x. name_cmp x.name (name.Doc c.args.key.now)) (always_returns_same _ _ _ (λ a r f' called. (search rules, search rules))) in
    subst (StandsAt c.args.cells.now (name.Doc c.args.key.now)) (sym c.ok.ensures.value) (placed _ c.args.cells.now _ c.requires c.binary_search_by.ensures.bound by_name)
