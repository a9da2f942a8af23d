-- How a batch is to be run: what a value is as such a plan, if it is one.
use Rattle.std.specs.Prelude.{ℕ, pos, map, not, Bool, true, false, ◌||◌, ◌&&◌, ◌==◌, nat_lt, codes, Option, Some, None, option_and_then, List, [], ◌∷◌, if◌then◌else◌}
use Rattle.std.specs.List.{list_all, list_any}
use Rattle.std.specs.Str.{bytes_eq}
use Rattle.doc_value.specs.Paths.{field_in}
use Rattle.doc_value.specs.declared.value.Named.{Named}
use Rattle.doc_value.specs.declared.value.Value.{Value, out-Value}
use Rattle.doc_value.specs.declared.value.Value.TheOpen.{Value-F}
use Rattle.txn_script.specs.declared.plan.GoPlan.{GoPlan}
use Rattle.txn_script.specs.declared.plan.Stop.{Stop}

-- ---- its fields, each of which may be left out

abbrev pub is_plan_name : List ℕ → Bool
is_plan_name name =
    bytes_eq name (codes "finish") || bytes_eq name (codes "runners")
    || bytes_eq name (codes "seed") || bytes_eq name (codes "stops")

abbrev pub has_plan_fields : Value-F Value → Bool
has_plan_fields (Value-F.Object fields) = list_all (λ field. is_plan_name field.name) fields
has_plan_fields _ = false

abbrev pub if_there : {A : Type 0} → A → (Value-F Value → Option A) → Option Value → Option A
if_there absent read (Some value) = read (out-Value value)
if_there absent read None = Some absent

-- 0 or more
abbrev pub count_in : Value-F Value → Option ℕ
count_in (Value-F.Int (pos number)) = Some number
count_in _ = None

-- 1 to 16
abbrev pub runners_in : Value-F Value → Option ℕ
runners_in (Value-F.Int (pos number)) =
    if (number == 0) || nat_lt 16 number then None else Some number
runners_in _ = None

abbrev pub truth_in : Value-F Value → Option Bool
truth_in (Value-F.Bool truth) = Some truth
truth_in _ = None

-- ---- stops

abbrev pub stop_with : ℕ → Option ℕ → Option ℕ → Option Stop
stop_with runners (Some runner) (Some steps) =
    if nat_lt runner runners then Some (record { runner = runner; steps = steps }) else None
stop_with runners _ _ = None

abbrev pub stop_of : ℕ → List Value → Option Stop
stop_of runners (runner ∷ steps ∷ []) =
    stop_with runners (count_in (out-Value runner)) (count_in (out-Value steps))
stop_of runners _ = None

-- a runner below that number, and its steps
abbrev pub stop_in : ℕ → Value-F Value → Option Stop
stop_in runners (Value-F.List parts) = stop_of runners parts
stop_in runners _ = None

abbrev pub before : Stop → Option (List Stop) → Option (List Stop)
before stop (Some stops) = Some (stop ∷ stops)
before stop None = None

abbrev pub stops_of : ℕ → List Value → Option (List Stop)
stops_of runners [] = Some []
stops_of runners (value ∷ values) =
    option_and_then (λ stop. before stop (stops_of runners values)) (stop_in runners (out-Value value))

abbrev pub has_stop : ℕ → List Stop → Bool
has_stop runner stops = list_any (λ stop. stop.runner == runner) stops

-- each runner at most once
abbrev pub stop_each_once : List Stop → Bool
stop_each_once [] = true
stop_each_once (stop ∷ stops) = not (has_stop stop.runner stops) && stop_each_once stops

abbrev pub if_each_once : List Stop → Option (List Stop)
if_each_once stops = if stop_each_once stops then Some stops else None

unfoldable pub stops_in : ℕ → Value-F Value → Option (List Stop)
stops_in runners (Value-F.List values) = option_and_then if_each_once (stops_of runners values)
stops_in runners _ = None

-- ---- the plan

abbrev pub plan_with : ℕ → Option ℕ → Option (List Stop) → Option Bool → Option GoPlan
plan_with runners (Some seed) (Some stops) (Some finish) =
    Some (record { runners = runners; seed = seed; stops = stops; finish = finish })
plan_with runners _ _ _ = None

-- the field of that name, where the value is an object that has it
abbrev pub part : List ℕ → Value → Option Value
part name value = field_in name (out-Value value)

-- the plan of so many runners, from what is left of the value
unfoldable pub plan_of : Value → ℕ → Option GoPlan
plan_of value runners =
    plan_with runners (if_there 0 count_in (part (codes "seed") value))
    (if_there [] (stops_in runners) (part (codes "stops") value))
    (if_there true truth_in (part (codes "finish") value))

-- one runner with the seed 0, no stops, and a finishing pass, where nothing else is said
unfoldable pub plan_in : Value → Option GoPlan
plan_in value =
    if has_plan_fields (out-Value value)
    then option_and_then (plan_of value) (if_there 1 runners_in (part (codes "runners") value))
    else None
