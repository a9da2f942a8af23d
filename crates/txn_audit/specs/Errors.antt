-- Errors of an audit that come before its answer.
use Rattle.store_trait.specs.declared.store.StoreError.{StoreError}
use Rattle.store_trait.specs.declared.store.StoreError.TheVariants as store_error
use Rattle.txn_audit.specs.declared.error.AuditError.{AuditError}
use Rattle.txn_audit.specs.declared.error.AuditError.TheVariants as error

-- what the refusal of a call on the store comes to
abbrev pub error_of_store : StoreError → AuditError
error_of_store store_error.Failed = error.StoreFault
error_of_store store_error.OutOfMemory = error.OutOfMemory

-- a call failed, or memory was wanting
abbrev pub IsOfCall : AuditError → Type 0
IsOfCall error.StoreFault = Unit {0}
IsOfCall error.TooMany = ⊥
IsOfCall (error.Unsound rule name) = ⊥
IsOfCall error.OutOfMemory = Unit {0}

-- one of these, or the cells are too many
abbrev pub IsOfReading : AuditError → Type 0
IsOfReading error.StoreFault = Unit {0}
IsOfReading error.TooMany = Unit {0}
IsOfReading (error.Unsound rule name) = ⊥
IsOfReading error.OutOfMemory = Unit {0}
