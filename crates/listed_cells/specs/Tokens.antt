-- What is asked of the tokens of a cell, in two parts.
use Rattle.std.specs.Prelude.{List}
use Rattle.txn_key.specs.declared.id.Token.{Token}
use Rattle.txn_key.specs.declared.key.Key.{Key}
use Rattle.store_laws.specs.View.{View, HasKey}
use Rattle.store_laws.specs.Readiness.{In, Before}

-- each token is of a present record that has the key
abbrev pub AllNamed : View → Key → List Token → Type 0
AllNamed view key tokens = (x : Token) → In x tokens → HasKey view x.id key

-- no token stands twice
abbrev pub IsOnce : List Token → Type 0
IsOnce queue = (x : Token) → Before x x queue → ⊥
