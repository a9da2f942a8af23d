-- The body after an update.
use Rattle.std.specs.Prelude.{Bool, List, [], ◌∷◌, nat_lt, Option, Some, None, option_and_then, if◌then◌else◌}
use Rattle.doc_value.specs.declared.value.Value.{Value}
use Rattle.doc_value.specs.Depth.{nesting}
use Rattle.doc_update.specs.Changes.{Change, changes_of}
use Rattle.doc_update.specs.Effects.{effect}
use Rattle.doc_update.specs.Places.{changed}

abbrev pub after_change : Change → Option Value → Option (Option Value)
after_change change found = changed (effect change.operator change.operand) change.path found

-- one change after another: nothing where one doesn't fit what those before it made
abbrev pub after_changes : List Change → Option Value → Option (Option Value)
after_changes [] found = Some found
after_changes (change ∷ changes) found =
    option_and_then (after_changes changes) (after_change change found)

-- a value that a body may be, of at most 90 levels
abbrev pub is_too_deep : Value → Bool
is_too_deep value = nat_lt 90 (nesting value)

abbrev pub if_body : Option Value → Option Value
if_body (Some value) = if is_too_deep value then None else Some value
if_body None = None

-- what the changes make of a value, where it is no deeper than a body may be
abbrev pub body_after : Value → Value → Option Value
body_after update value = option_and_then if_body (after_changes (changes_of update) (Some value))

-- the body after an update, or nothing where the update doesn't fit the body; none fits what is too deep to be a body
abbrev pub updated : Value → Value → Option Value
updated update body = if is_too_deep body then None else body_after update body
