-- The texts that name and show what a store holds.
use Rattle.std.specs.Prelude.{ℕ, List, [], ◌∷◌, ◌++◌, codes}
use Rattle.std.specs.Fmt.{decimal, signed_decimal}
use Rattle.json.specs.Print.{quoted}
use Rattle.doc_value.specs.Texts.{compact}
use Rattle.doc_value.specs.declared.value.Value.{Value}
use Rattle.doc_value.specs.declared.doc_id.DocId.{DocId}
use Rattle.doc_value.specs.declared.doc_id.DocId.TheVariants as doc_id
use Rattle.txn_key.specs.Ids.{id_text}
use Rattle.txn_key.specs.declared.key.Key.{Key}
use Rattle.txn_record.specs.declared.entry.Entry.{Entry}
use Rattle.txn_record.specs.declared.entry.Outcome.{Outcome}
use Rattle.txn_record.specs.declared.entry.Outcome.TheVariants as outcome
use Rattle.store_trait.specs.declared.cell.Named.{Named}
use Rattle.store_trait.specs.declared.name.Name.{Name}
use Rattle.store_trait.specs.declared.name.Name.TheVariants as name
use Rattle.cell_text.specs.Values.{cell_text}

-- ---- names

abbrev pub id_json : DocId → List ℕ
id_json (doc_id.Text text) = quoted text
id_json (doc_id.Int number) = signed_decimal number

-- collection and id as JSON, with a blank between
abbrev pub key_text : Key → List ℕ
key_text key = quoted key.c ++ codes " " ++ id_json key.d

abbrev pub name_text : Name → List ℕ
name_text (name.Record id) = codes "record " ++ id_text id
name_text (name.Doc key) = codes "doc " ++ key_text key
name_text (name.Stash key) = codes "stash " ++ key_text key
name_text name.Nonce = codes "nonce"

-- ---- documents, cells and entries, and the lines of them

-- the key of a document, a blank and its body
abbrev pub document_text : Key × Value → List ℕ
document_text doc = key_text doc.0 ++ codes " " ++ compact doc.1

abbrev pub document_line : Key × Value → List ℕ
document_line doc = document_text doc ++ 10 ∷ []

abbrev pub cell_line : Named → List ℕ
cell_line named = cell_text named ++ 10 ∷ []

abbrev pub outcome_word : Outcome → List ℕ
outcome_word outcome.Applied = codes "applied"
outcome_word outcome.Aborted = codes "aborted"

-- the number of an entry, its id and how it was decided, with blanks between
abbrev pub entry_text : ℕ → Entry → List ℕ
entry_text number entry =
    decimal number ++ codes " " ++ id_text entry.id ++ codes " " ++ outcome_word entry.outcome

abbrev pub entry_line : ℕ → Entry → List ℕ
entry_line number entry = entry_text number entry ++ 10 ∷ []
