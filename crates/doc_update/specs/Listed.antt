-- What a change that holds references says.
use Rattle.doc_update.specs.Changes.{Change}
use Rattle.doc_update.specs.declared.change.Change.{Change as Listed}

abbrev pub change_listed : Listed → Change
change_listed listed = record {
  operator = listed.operator;
  name = listed.field.now.name;
  path = listed.parts;
  operand = listed.field.now.value;
}
