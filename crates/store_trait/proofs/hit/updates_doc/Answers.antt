use Rattle.std.proofs.Common.{◌≡◌, Bool, true, false, Option, Some, None, option_map, is_some, cond, sym, ◌∙◌}
use Rattle.doc_value.specs.declared.value.Value.{Value}
use Rattle.doc_update.specs.Updates.{updated}
use Rattle.std.proofs.lemmas.Int.{to_z-of_z}
use Rattle.store_trait.specs.Edits.{with_body, is_updatable}
use Rattle.store_trait.specs.declared.cell.DocCell.{DocCell}
use Rattle.store_trait.proofs.hit.updates_doc.Goals as goal

-- where the document takes updates, the edit hits exactly where this one fits
fits_there : (test fits : Bool) (body : Option Value) (doc : DocCell) → test ≡ true → fits ≡ is_some body → fits ≡ is_some (cond test (option_map (λ body. Some (with_body doc body)) body) None)
fits_there true fits None doc t e = e
fits_there true fits (Some body) doc t e = e
fits_there false fits body doc t e = cc

pub returns-then-takes_update : goal.returns-then-takes_update
returns-then-takes_update c =
    let doc = c.args.doc.now in
    let fits_i64 = c.ranges.revno in
    let there : is_updatable doc c.args.revno c.args.token.now ≡ true = simp to_z-of_z at (sym c.takes_update.ensures ∙ c.if-takes_update.true) in
    fits_there (is_updatable doc c.args.revno c.args.token.now) _ (updated c.args.update.now doc.body) doc there c.fits.ensures
