use Rattle.std.proofs.Common.{◌≡◌, true, Result, Ok, Err, IsUtf8}
use Rattle.std.specs.Result.{OnOk}
use Rattle.doc_value.specs.declared.value.Value.{Value}
use Rattle.doc_value.specs.Texts.{compact}
use Rattle.doc_value.specs.Sound.{is_sound}
use Rattle.doc_value.proofs.RoundTrip.{utf8-compact}
use Rattle.doc_value.proofs.print.push_value.Goals as goal

utf8_where_sound : {T E : Type 0} (made : Result T E) (value : Value) → OnOk made (is_sound value ≡ true) → OnOk made (IsUtf8 (compact value))
utf8_where_sound (Ok x) value sound = utf8-compact value sound
utf8_where_sound (Err e) value sound = tt

pub returns-clause-utf8 : goal.returns-clause-utf8
returns-clause-utf8 c = utf8_where_sound c.write_value.result c.args.value.now c.write_value.ensures.sound
