use Rattle.std.proofs.Common.{◌≡◌, List, map, length, true, sym, ap, ◌∙◌, subst}
use Rattle.std.proofs.lemmas.List.{length-map}
use Rattle.txn_key.specs.KeySets.{distinct}
use Rattle.txn_key.specs.Places.{keys_rise}
use Rattle.txn_key.specs.declared.key.Key.{Key}
use Rattle.txn_audit.specs.Bodies.{held_body, keys_in, kept}
use Rattle.listed_cells.specs.Listing.{content_of}
use Rattle.txn_audit.proofs.Completions.{each_there, completed, unfit}
use Rattle.txn_audit.proofs.completion.complete.Goals as goal

pub run_all-requires : goal.run_all-requires
run_all-requires c =
    let cells = c.args.cells.now in
    let keys = c.as_slice-2.result.now in
    let all : keys ≡ distinct (keys_in cells) = c.as_slice-2.ensures ∙ c.in_ok-keys.ensures.all in
    let lie : c.in_ok-bodies.bodies ≡ map (held_body (content_of cells)) keys = c.in_ok-bodies.ensures ∙ ap (map (held_body (content_of cells))) (c.as_slice.ensures ∙ sym c.as_slice-2.ensures) in
    record {
      listed = c.requires.listed;
      rise = subst (λ (ks : List Key). keys_rise ks ≡ true) (sym c.as_slice-2.ensures) c.in_ok-keys.ensures.rise;
      there = each_there cells keys all c.requires.listed.kinds;
      count = ap length lie ∙ simp length-map;
    }

pub returns-in-Some : goal.returns-in-Some
returns-in-Some c =
    let cells = c.args.cells.now in
    let keys = c.as_slice-2.result.now in
    let all : keys ≡ distinct (keys_in cells) = c.as_slice-2.ensures ∙ c.in_ok-keys.ensures.all in
    let lie : c.in_ok-bodies.bodies ≡ map (held_body (content_of cells)) keys = c.in_ok-bodies.ensures ∙ ap (map (held_body (content_of cells))) (c.as_slice.ensures ∙ sym c.as_slice-2.ensures) in
    unfit cells c.requires.listed c.requires.sound keys all c.in_ok-bodies.bodies lie c.in-Some.place (sym c.in_ok-place.ensures.found ∙ c.in-Some.is)

pub returns : goal.returns
returns c =
    let cells = c.args.cells.now in
    let keys = c.as_slice-2.result.now in
    let all : keys ≡ distinct (keys_in cells) = c.as_slice-2.ensures ∙ c.in_ok-keys.ensures.all in
    let lie : c.in_ok-bodies.bodies ≡ map (held_body (content_of cells)) keys = c.in_ok-bodies.ensures ∙ ap (map (held_body (content_of cells))) (c.as_slice.ensures ∙ sym c.as_slice-2.ensures) in
    let same : c.as_slice-in-None.result.now ≡ keys = c.as_slice-in-None.ensures ∙ sym c.as_slice-2.ensures in
    let after : c.as_slice-in-None-2.result.now ≡ c.run_all.new.bodies = c.as_slice-in-None-2.ensures in
    completed cells c.requires.listed c.requires.sound keys all c.in_ok-bodies.bodies lie c.in_ok-documents-in-None.field-0 c.run_all.new.bodies
    (sym c.in_ok-place.ensures.found ∙ c.in-None.is) (c.in_ok-place.ensures.runs c.in-None.is) (c.in_ok-documents-in-None.ensures ∙ (λ i. kept (same i) (after i)))
