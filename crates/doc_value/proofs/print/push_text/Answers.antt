use Rattle.std.proofs.lemmas.Str.{is_utf8-from_IsUtf8}
use Rattle.json.proofs.Printed.Utf8.{IsUtf8-quoted}
use Rattle.doc_value.proofs.print.push_text.Goals as goal

pub returns-clause-sound : goal.returns-clause-sound
returns-clause-sound c = is_utf8-from_IsUtf8 _ c.utf8.text

pub returns-clause-utf8 : goal.returns-clause-utf8
returns-clause-utf8 c = IsUtf8-quoted _ c.utf8.text
