-- Soundness put together from its parts, and the chains of applying records where what is held stays.
use Rattle.std.proofs.Common.{◌≡◌, ◌<◌, true, Some, [], IfSome, IsTrue, unwrap_or, sym, ◌∙◌, subst}
use Rattle.std.proofs.lemmas.Option.{same_Some}
use Rattle.std.specs.FinMap.{insert}
use Rattle.txn_key.specs.declared.id.TxnId.{TxnId}
use Rattle.txn_key.specs.declared.key.Key.{Key}
use Rattle.txn_record.specs.Effects.{changes_fit}
use Rattle.txn_record.specs.Revnos.{is_on_chain}
use Rattle.txn_record.specs.declared.record.Record.{Record}
use Rattle.txn_record.specs.declared.state.State.TheVariants as state
use Rattle.store_trait.specs.Names.{same_state, may_stand}
use Rattle.store_trait.specs.Contents.{Content}
use Rattle.store_laws.specs.View.{View, Held, look, record_at, counter, held_number, applying, was_decided}
use Rattle.store_laws.specs.Soundness.{IsSound, Rule, Holds, AtRecord, IsInQueues, IfApplying, StandsOnChain, PendingFits, IsMarkedSoundly, HasSoundEntry, is_numbered}
use Rattle.store_laws.specs.Readiness.{IsReady, Sealed}
use Rattle.store_trait.specs.declared.cell.Cell.TheVariants as cell
use Rattle.store_trait.specs.declared.name.Name.{Name}
use Rattle.store_trait.specs.declared.name.Name.TheVariants as name
use Rattle.store_laws.proofs.views.Shapes.{SameHeld, ChangesRecord}
use Rattle.store_laws.proofs.views.Orderly.{IsOrderly}
use Rattle.store_laws.proofs.views.Changes.{IsOrderlyStep}
use Rattle.store_laws.proofs.views.Moves.{each_record, put_here}
use Rattle.store_laws.proofs.cells.Looks.{record_looks}
use Rattle.store_laws.proofs.cells.CellRules.{HasSoundCells, sound_cells, cells_put_record}
use Rattle.store_laws.proofs.cells.Marks.{MarksApart, marks_put_record}
use Rattle.store_laws.proofs.meanings.Meanings.{pending_of-same, bodies-same}
use Rattle.store_laws.proofs.cells.Parts.{parts, HasMarksAt}

-- the rules on what an applying record finds and has still to do
pub record HasSoundChains (c : Content) : Type 0 where
  pub on_chain : (id : TxnId) (rec : Record) → record_at c id ≡ Some rec → IsTrue (same_state state.Applying rec.state) → StandsOnChain (look c) rec
  pub fits : (id : TxnId) (rec : Record) → record_at c id ≡ Some rec → IsTrue (same_state state.Applying rec.state) → PendingFits c rec

pub sound_chains : (c : Content) → IsSound c → HasSoundChains c
sound_chains c s = record { on_chain = (parts c s).on_chain; fits = (parts c s).fits }

pub at_record : (P : TxnId → Type 0) → ((id : TxnId) → P id) → (n : Name) → AtRecord P n
at_record P all (name.Record id) = all id
at_record P all (name.Doc key) = tt
at_record P all (name.Stash key) = tt
at_record P all name.Nonce = tt

pub marks_by_name : (c : Content) → ((key : Key) → HasMarksAt c key) → (n : Name) → IsMarkedSoundly c n
marks_by_name c all (name.Record id) = tt
marks_by_name c all (name.Doc key) = (all key).of_doc
marks_by_name c all (name.Stash key) = (all key).of_stash
marks_by_name c all name.Nonce = tt

pub entries_by_name : (c : Content) → ((key : Key) → HasMarksAt c key) → (n : Name) → HasSoundEntry c n
entries_by_name c all (name.Record id) = tt
entries_by_name c all (name.Doc key) = tt
entries_by_name c all (name.Stash key) = (all key).entry
entries_by_name c all name.Nonce = tt

-- soundness from its parts
pub sound_from : (c : Content) → HasSoundCells c → IsOrderly (look c) → ((key : Key) → HasMarksAt c key) → HasSoundChains c → IsSound c
unfolding look
sound_from c cells o marks chains = record { kinds = λ n x found. (cells n x found).stands; rules = rules }
  where
    rules : (rule : Rule) (n : Name) → Holds rule c n
    rules Rule.Numbers n = λ x found. (cells n x found).numbered
    rules Rule.Tokens n = λ x found. (cells n x found).tokens
    rules Rule.Nonces n = λ x found. (cells n x found).nonces
    rules Rule.InQueues n = at_record (IsInQueues c) o.queued n
    rules Rule.AppliesReady n = at_record (λ id. applying (look c) id ≡ true → IsReady (look c) id) o.ready n
    rules Rule.DecidedSealed n = at_record (λ id. was_decided (look c) id ≡ true → Sealed (look c) id) o.sealed n
    rules Rule.Marks n = marks_by_name c marks n
    rules Rule.Entries n = entries_by_name c marks n
    rules Rule.OnChain n = at_record (IfApplying c (StandsOnChain (look c))) chains.on_chain n
    rules Rule.Fits n = at_record (IfApplying c (PendingFits c)) chains.fits n

-- where what is held stays

chain_same : {old new : View} (rec : Record) → SameHeld old new → StandsOnChain old rec → StandsOnChain new rec
chain_same rec same h = record { on_chain = λ key on. subst (λ (held : Held). is_on_chain key (held_number held) rec.ops (unwrap_or rec.revnos []) ≡ true) (sym (same.held key)) (h.on_chain key on) }

fits_same : (c d : Content) (rec : Record) → SameHeld (look c) (look d) → PendingFits c rec → PendingFits d rec
fits_same c d rec same h = (λ i. changes_fit (pending_of-same (look c) (look d) same rec i) (bodies-same c d same i)) ∙ h

pub chains_same : (c d : Content) → HasSoundChains c → ((id : TxnId) → record_at d id ≡ record_at c id) → SameHeld (look c) (look d) → HasSoundChains d
chains_same c d s records same = record {
  on_chain = λ id rec there applies. chain_same rec same (s.on_chain id rec (sym (records id) ∙ there) applies);
  fits = λ id rec there applies. fits_same c d rec same (s.fits id rec (sym (records id) ∙ there) applies);
}

-- A record is put, which, if it is applying, stands on its chain, with what it has to do fitting.
pub sound_put_record : (c : Content) (id : TxnId) (rec : Record) → let d = insert c (name.Record id) (cell.Record rec) in IsSound c → IsOrderlyStep (look c) (look d) → may_stand (name.Record id) (cell.Record rec) ≡ true → is_numbered (cell.Record rec) ≡ true
    → IfSome rec.nonce (λ nonce. nonce < counter c) → MarksApart c id → (IsTrue (same_state state.Applying rec.state) → StandsOnChain (look c) rec × PendingFits c rec) → IsSound d
unfolding look
sound_put_record c id rec s step stands numbered below apart chain =
    sound_from d (cells_put_record c id rec (sound_cells c s) step.later stands numbered below) step.orderly (marks_put_record c id rec s apart) (record {
      on_chain = λ i r there applies. (each i r there applies).0;
      fits = λ i r there applies. (each i r there applies).1;
    })
  where
    d : Content
    d = insert c (name.Record id) (cell.Record rec)

    change : ChangesRecord (look c) (look d) id rec
    change = record_looks c id rec

    each : (i : TxnId) (r : Record) → record_at d i ≡ Some r → IsTrue (same_state state.Applying r.state) → StandsOnChain (look d) r × PendingFits d r
    each = each_record change.puts (λ i. (r : Record) → record_at d i ≡ Some r → IsTrue (same_state state.Applying r.state) → StandsOnChain (look d) r × PendingFits d r)
        (λ r there applies. subst (λ (r : Record). IsTrue (same_state state.Applying r.state) → StandsOnChain (look d) r × PendingFits d r) (same_Some rec r (sym (put_here id rec change.puts) ∙ there)) (λ applies. (chain_same rec change.held (chain applies).0, fits_same c d rec change.held (chain applies).1)) applies)
        (λ i same r there applies. (chain_same r change.held ((parts c s).on_chain i r (sym same ∙ there) applies), fits_same c d r change.held ((parts c s).fits i r (sym same ∙ there) applies)))
