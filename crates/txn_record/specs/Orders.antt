-- What recorded transactions make, in order.
use Rattle.std.specs.Prelude.{Bool, true, ◌&&◌, not, List, [], ◌∷◌}
use Rattle.std.specs.List.{list_any}
use Rattle.std.specs.Str.{bytes_eq}
use Rattle.txn_key.specs.Documents.{Docs}
use Rattle.txn_record.specs.Effects.{effect, tests}
use Rattle.txn_record.specs.declared.entry.Entry.{Entry}
use Rattle.txn_record.specs.declared.entry.Outcome.{Outcome}
use Rattle.txn_record.specs.declared.entry.Outcome.TheVariants.{Applied, Aborted}
use Rattle.txn_record.specs.declared.op.Op.{Op}

abbrev pub outcome_effect : Outcome → List Op → Docs → Docs
outcome_effect Applied ops docs = effect ops docs
outcome_effect Aborted ops docs = docs

-- the documents after the applied transactions, in turn
abbrev pub after : Docs → List Entry → Docs
after base [] = base
after base (entry ∷ entries) = after (outcome_effect entry.outcome entry.ops base) entries

abbrev pub is_right : Outcome → Bool → Bool
is_right Applied held = held
is_right Aborted held = not held

-- each transaction was applied where its tests held after those before it, and aborted where not
abbrev pub outcomes_right : Docs → List Entry → Bool
outcomes_right base [] = true
outcomes_right base (entry ∷ entries) =
    is_right entry.outcome (tests entry.ops base)
    && outcomes_right (outcome_effect entry.outcome entry.ops base) entries

-- an entry of that id stands there
abbrev pub has_entry : List Entry → Entry → Bool
has_entry entries entry = list_any (λ other. bytes_eq other.id.0 entry.id.0) entries

abbrev pub ids_distinct : List Entry → Bool
ids_distinct [] = true
ids_distinct (entry ∷ entries) = not (has_entry entries entry) && ids_distinct entries

-- the recorded order is one in which whole transactions ran from the base, each once
abbrev pub legal : Docs → List Entry → Bool
legal base entries = ids_distinct entries && outcomes_right base entries
