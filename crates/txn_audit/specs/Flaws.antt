-- The first of the ten rules that fails, and where it does.
use Rattle.std.specs.Prelude.{◌≡◌, ℕ, ◌<◌, ◌==◌, if◌then◌else◌}
use Rattle.std.specs.declared.cmp.Ordering.TheVariants.{Less}
use Rattle.store_trait.specs.Contents.{Content}
use Rattle.store_trait.specs.Names.{name_cmp}
use Rattle.store_trait.specs.declared.name.Name.{Name}
use Rattle.store_laws.specs.Soundness.{Rule, Holds, rule_number, Numbers, Tokens, Nonces, InQueues, AppliesReady, DecidedSealed, Marks, Entries, OnChain, Fits}

-- the rule of a number
abbrev pub rule_of : ℕ → Rule
rule_of n =
    if n == 1 then Numbers
    else (if n == 2 then Tokens
    else (if n == 3 then Nonces
    else (if n == 4 then InQueues
    else (if n == 5 then AppliesReady
    else (if n == 6 then DecidedSealed
    else (if n == 7 then Marks
    else (if n == 8 then Entries
    else (if n == 9 then OnChain else Fits))))))))

abbrev pub HoldsAtAll : Content → Rule → Type 0
HoldsAtAll c rule = (n : Name) → Holds rule c n

-- A rule fails at a name, and at none before it; and every rule of a lesser number holds at all names.
pub record IsFirstBroken (c : Content) (number : ℕ) (at : Name) : Type 0 where
  pub rule : Rule
  pub numbered : rule_number rule ≡ number
  pub fails : Holds rule c at → ⊥
  pub before : (n : Name) → name_cmp n at ≡ Less → Holds rule c n
  pub lower : (r : Rule) → rule_number r < number → HoldsAtAll c r
