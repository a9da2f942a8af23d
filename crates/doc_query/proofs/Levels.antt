-- The definitions over a query, one level of it at a time.
use Rattle.std.proofs.Common.{◌≡◌, List, map, ap, sym, ◌∙◌, rules}
use Rattle.doc_value.specs.Fields.{judged}
use Rattle.doc_value.specs.declared.value.Named.{Named}
use Rattle.doc_value.specs.declared.value.Value.{Value, out-Value, map-Value, para-Value, para-roll-Value, List as Items_of, Object, the_lemmas}
use Rattle.doc_value.specs.declared.value.Value.TheOpen.{Value-F}
use Rattle.doc_value.specs.declared.value.Value.TheViews.{roll-out-Value}
use Rattle.doc_query.specs.Conditions.{Truth, passing_step, passes_all, beside_truth}
use Rattle.doc_query.specs.Meaning.{TruthAs, holding_step, holds_as, beside_meaning}
use Rattle.doc_query.specs.Syntax.{Place, FaultAt, fault_step, fault_at, beside_fault}

one_level : (A : Type 0) (step : Value-F (Value × A) → A) (value : Value)
    → para-Value A step value ≡ step (map-Value Value (Value × A) (λ inner. (inner, para-Value A step inner)) (out-Value value))
one_level A step value = ap (para-Value A step) (sym (roll-out-Value value)) ∙ para-roll-Value A step (out-Value value)

pub passes_all_level : (value : Value) → passes_all value ≡ passing_step (map-Value Value (Value × Truth) beside_truth (out-Value value))
passes_all_level value = one_level Truth passing_step value

pub holds_as_level : (value : Value) → holds_as value ≡ holding_step (map-Value Value (Value × TruthAs) beside_meaning (out-Value value))
holds_as_level value = one_level TruthAs holding_step value

pub fault_at_level : (value : Value) → fault_at value ≡ fault_step (map-Value Value (Value × FaultAt) beside_fault (out-Value value))
fault_at_level value = one_level FaultAt fault_step value

pub fault_at_object : (fields : List (Named Value)) (place : Place) → fault_at (Object fields) place ≡ fault_step (Value-F.Object (map (judged beside_fault) fields)) place
fault_at_object fields place = search (rules, the_lemmas, fault_at_level)

pub fault_at_list : (values : List Value) (place : Place) → fault_at (Items_of values) place ≡ fault_step (Value-F.List (map beside_fault values)) place
fault_at_list values place = search (rules, the_lemmas, fault_at_level)
