-- Stops that are read in turn.
use Rattle.std.proofs.Common.{◌≡◌, ℕ, ◌+◌, List, [], ◌∷◌, ◌++◌, Option, Some, None, option_and_then, refl, ap, sym, ◌∙◌, ◌<◌, length, drop, get_or, append_assoc}
use Rattle.std.proofs.lemmas.List.{at_drop_more}
use Rattle.doc_value.specs.declared.value.Value.{Value, out-Value}
use Rattle.txn_script.specs.Plans.{before, stop_in, stops_of}
use Rattle.txn_script.specs.declared.plan.Stop.{Stop}

-- what was read, and what is read after it
abbrev pub after_those : List Stop → Option (List Stop) → Option (List Stop)
after_those stops (Some rest) = Some (stops ++ rest)
after_those stops None = None

pub after_none : (read : Option (List Stop)) → after_those [] read ≡ read
after_none (Some rest) = refl
after_none None = refl

after_push : (stops : List Stop) (stop : Stop) (read : Option (List Stop)) → after_those (stops ++ stop ∷ []) read ≡ after_those stops (before stop read)
after_push stops stop (Some rest) = ap Some (append_assoc stops (stop ∷ []) rest)
after_push stops stop None = refl

-- one more value read
pub after_next : (runners : ℕ) (values : List Value) (i : ℕ) (stops : List Stop) (value : Value) (stop : Stop) → i < length values → value ≡ get_or values i value → Some stop ≡ stop_in runners (out-Value value)
    → after_those (stops ++ stop ∷ []) (stops_of runners (drop (i + 1) values)) ≡ after_those stops (stops_of runners (drop i values))
after_next runners values i stops value stop within here is =
    let run = λ (rest : List Value). after_those stops (stops_of runners rest) in
    after_push stops stop (stops_of runners (drop (i + 1) values))
    ∙ ap (λ (read : Option Stop). after_those stops (option_and_then (λ s. before s (stops_of runners (drop (i + 1) values))) read)) is
    ∙ sym (at_drop_more run values i value within ∙ ap (λ (one : Value). run (one ∷ drop (i + 1) values)) (sym here))
