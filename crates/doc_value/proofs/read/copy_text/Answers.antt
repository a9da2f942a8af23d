use Rattle.std.proofs.lemmas.Str.{is_utf8-from_IsUtf8}
use Rattle.doc_value.proofs.read.copy_text.Goals as goal

pub returns-clause-sound : goal.returns-clause-sound
returns-clause-sound c = is_utf8-from_IsUtf8 _ c.utf8.text
