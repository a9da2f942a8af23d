-- How a step is refused, and what it leaves then.
use Rattle.std.specs.Prelude.{◌≡◌, Option, Some, None}
use Rattle.store_trait.specs.Contents.{Content}
use Rattle.store_trait.specs.Edits.{left}
use Rattle.store_trait.specs.declared.edit.Edit.{Edit}
use Rattle.store_trait.specs.declared.name.Name.{Name}
use Rattle.store_trait.specs.declared.store.StoreError.{StoreError}
use Rattle.store_trait.specs.declared.store.StoreError.TheVariants as store_error
use Rattle.flush_prepare.specs.declared.error.StepError.{StepError}
use Rattle.flush_prepare.specs.declared.error.StepError.TheVariants as step

-- how a store refuses a call
abbrev pub step_error_of : StoreError → StepError
step_error_of store_error.Failed = step.StoreFault
step_error_of store_error.OutOfMemory = step.OutOfMemory

-- a refusal by the store itself, or for want of memory
abbrev pub IsOfStore : StepError → Type 0
IsOfStore step.StoreFault = Unit {0}
IsOfStore step.OutOfMemory = Unit {0}
IsOfStore _ = ⊥

-- what a call that failed leaves: an edit what the store says of it, a read the content
abbrev pub LeftBy : Content → Name → Option Edit → Content → Type 0
LeftBy c name None d = d ≡ c
LeftBy c name (Some edit) d = left c name edit d

-- what a refusal leaves: want of memory comes before an edit is made
abbrev pub LeftAt : StepError → Content → Name → Option Edit → Content → Type 0
LeftAt step.StoreFault c name edit d = LeftBy c name edit d
LeftAt _ c name edit d = d ≡ c
