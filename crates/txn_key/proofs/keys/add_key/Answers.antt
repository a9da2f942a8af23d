use Rattle.std.proofs.Common.{◌≡◌, List, ap, ◌∙◌, subst}
use Rattle.std.specs.List.{insert}
use Rattle.txn_key.specs.KeySets.{set_of}
use Rattle.txn_key.specs.Places.{GoesAt, StandsAt, keys_rise}
use Rattle.txn_key.specs.declared.key.Key.{Key}
use Rattle.txn_key.proofs.KeySets.{rise_after, set_after, set_with}
use Rattle.txn_key.proofs.keys.add_key.Goals as goal

pub returns-in_ok-insert-clause-set : goal.returns-in_ok-insert-clause-set
returns-in_ok-insert-clause-set c =
    let goes = subst (GoesAt c.args.key.now c.in-Err.place) c.deref.ensures.value c.in-Err.ensures.goes in
    let grown : c.insert.new.self.items ≡ insert c.args.keys.now.items c.in-Err.place c.args.key.now =
    ◌∙◌ {A = List Key} c.in_ok-insert.ensures.items (ap (insert c.args.keys.now.items c.in-Err.place) c.in_ok-copy.ensures) in
    ap set_of grown ∙ set_after c.args.key.now c.args.keys.now.items c.in-Err.place c.requires goes

pub returns-in_ok-insert-clause-rise : goal.returns-in_ok-insert-clause-rise
returns-in_ok-insert-clause-rise c =
    let goes = subst (GoesAt c.args.key.now c.in-Err.place) c.deref.ensures.value c.in-Err.ensures.goes in
    let grown : c.insert.new.self.items ≡ insert c.args.keys.now.items c.in-Err.place c.args.key.now =
    ◌∙◌ {A = List Key} c.in_ok-insert.ensures.items (ap (insert c.args.keys.now.items c.in-Err.place) c.in_ok-copy.ensures) in
    ap keys_rise grown ∙ rise_after c.args.key.now c.args.keys.now.items c.in-Err.place c.requires goes

pub returns-in_default-clause-set : goal.returns-in_default-clause-set
returns-in_default-clause-set c =
    let stands = subst (StandsAt c.args.key.now c.in_default.field-0) c.deref.ensures.value c.in_default.ensures.stands in
    set_with c.args.key.now c.args.keys.now.items c.in_default.field-0 c.requires stands
