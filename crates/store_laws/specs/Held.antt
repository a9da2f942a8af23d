-- The body that the owner of a key holds.
use Rattle.std.specs.Prelude.{Option, Some, None}
use Rattle.doc_value.specs.declared.value.Value.{Value}
use Rattle.store_laws.specs.View.{Held, Body, Number}

abbrev pub body_in : Held → Option Value
body_in (Body revno body) = Some body
body_in (Number revno) = None
