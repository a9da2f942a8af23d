-- The two steps that matter to the meaning: a ready record that becomes applying turns it into the
-- effect of its operations, and an applying record's update leaves it.
use Rattle.std.proofs.Common.{◌≡◌, ◌≢◌, Bool, true, false, Option, Some, List, [], ◌∷◌, ◌++◌, ◌⊎◌, inl, inr, sym, ap, ◌∙◌, refl, subst, if◌then◌else◌, append-nil}
use Rattle.std.specs.Prelude.{option_to_list}
use Rattle.std.specs.FinMap.{get, insert}
use Rattle.std.specs.List.{flat_map}
use Rattle.doc_value.specs.declared.value.Value.{Value}
use Rattle.txn_key.specs.declared.id.TxnId.{TxnId}
use Rattle.txn_key.specs.declared.key.Key.{Key}
use Rattle.txn_key.specs.Keys.{same_key}
use Rattle.txn_record.specs.Effects.{effect, body_after}
use Rattle.txn_record.specs.declared.op.Op.{Op}
use Rattle.txn_record.specs.declared.record.Record.{Record}
use Rattle.store_trait.specs.Contents.{Content}
use Rattle.store_laws.specs.Meaning.{meaning, pending, pending_of, records}
use Rattle.store_laws.specs.View.{View, Held, look, record_at, IsOn}
use Rattle.store_trait.specs.declared.cell.Cell.TheVariants as cell
use Rattle.store_trait.specs.declared.name.Name.TheVariants as name
use Rattle.store_laws.proofs.meanings.Bodies.{body_in}
use Rattle.store_laws.proofs.meanings.Idle.{NoneApplies, OnlyApplies, is_on, idle-none, idle-others, pending-at}
use Rattle.store_laws.proofs.meanings.Meanings.{get-meaning, pending-same, flat_map-append}
use Rattle.store_laws.proofs.cells.Records.{HasKinds, IsRecordSplit, all_standing, record_split}
use Rattle.store_laws.proofs.meanings.Runs.{run_on, run_on-append, run_on-away, get-effect, same_docs, same_key-itself, same_key-equal, same_key-other}
use Rattle.store_laws.proofs.meanings.Taken.{Taken}
use Rattle.store_laws.proofs.meanings.Thinned.{thinned_away, thinned_run}
use Rattle.store_laws.proofs.views.Shapes.{SameHeld, HeldElsewhere}

-- on a key of no applying record the meaning is what the owner holds
pub meaning-free : (c : Content) → HasKinds c → (key : Key) → NoneApplies (look c) key → get (meaning c) key ≡ body_in ((look c).held_at key)
meaning-free c kinds key none = get-meaning c key ∙ idle-none c (λ n. Unit {0}) (look c) key none (records c) (all_standing c kinds) (body_in ((look c).held_at key))

-- operations between others, seen at one key
between : (key : Key) (xs ops ys : List Op) (body : Option Value) → run_on key (xs ++ (ops ++ ys)) body ≡ run_on key ys (run_on key ops (run_on key xs body))
between key xs ops ys body = run_on-append key xs (ops ++ ys) body ∙ run_on-append key ops ys (run_on key xs body)

module _ (c : Content) (id : TxnId) (kinds : HasKinds c) (old : Record) (there : record_at c id ≡ Some old) where
  -- what is pending, split at the record: what the records before it have to do, what it has, and what those after it have
  pub splits_at : (new : Record) (f : Record → List Op) → flat_map f (records c) ≡ flat_map f (record_split c kinds id new).pre ++ (f old ++ flat_map f (record_split c kinds id new).post)
  splits_at new f =
      let s = record_split c kinds id new in
      ap (flat_map f) s.before ∙ flat_map-append f s.pre (option_to_list (record_at c id) ++ s.post)
      ∙ ap (λ (l : List Op). flat_map f s.pre ++ l)
      (flat_map-append f (option_to_list (record_at c id)) s.post ∙ ap (λ (l : List Op). l ++ flat_map f s.post) (ap (λ (o : Option Record). flat_map f (option_to_list o)) there ∙ append-nil (f old)))

  module _ (rec : Record) (same : SameHeld (look c) (look (insert c (name.Record id) (cell.Record rec)))) (idle : pending_of (look c) old ≡ []) (fresh : pending_of (look c) rec ≡ rec.ops) where
    before : List Op
    before = flat_map (pending_of (look c)) (record_split c kinds id rec).pre

    after : List Op
    after = flat_map (pending_of (look c)) (record_split c kinds id rec).post

    pending_now : pending (insert c (name.Record id) (cell.Record rec)) ≡ before ++ (rec.ops ++ after)
    unfolding before after
    pending_now =
        let s = record_split c kinds id rec in
        let d = insert c (name.Record id) (cell.Record rec) in
        pending-same c d same (records d) ∙ ap (flat_map (pending_of (look c))) s.after ∙ flat_map-append (pending_of (look c)) s.pre (rec ∷ s.post) ∙ ap (λ (l : List Op). before ++ (l ++ after)) fresh

    pending_before : pending c ≡ before ++ ([] ++ after)
    unfolding before after
    pending_before = splits_at rec (pending_of (look c)) ∙ ap (λ (l : List Op). before ++ (l ++ after)) idle

    quiet_before : (key : Key) → NoneApplies (look c) key → (body : Option Value) → run_on key before body ≡ body
    unfolding before
    quiet_before key none = idle-none c (λ n. n ≢ name.Record id) (look c) key none (record_split c kinds id rec).pre (record_split c kinds id rec).others_before

    quiet_after : (key : Key) → NoneApplies (look c) key → (body : Option Value) → run_on key after body ≡ body
    unfolding after
    quiet_after key none = idle-none c (λ n. n ≢ name.Record id) (look c) key none (record_split c kinds id rec).post (record_split c kinds id rec).others_after

    body_now : (key : Key) → get (meaning (insert c (name.Record id) (cell.Record rec))) key ≡ run_on key after (run_on key rec.ops (run_on key before (body_in ((look c).held_at key))))
    body_now key =
        get-meaning (insert c (name.Record id) (cell.Record rec)) key
        ∙ ap (run_on key (pending (insert c (name.Record id) (cell.Record rec)))) (ap body_in (same.held key))
        ∙ ap (λ (ops : List Op). run_on key ops (body_in ((look c).held_at key))) pending_now
        ∙ between key before rec.ops after (body_in ((look c).held_at key))

    at_key : ((key : Key) → IsOn key rec.ops → NoneApplies (look c) key) → (key : Key) → IsOn key rec.ops ⊎ (IsOn key rec.ops → ⊥)
        → run_on key after (run_on key rec.ops (run_on key before (body_in ((look c).held_at key)))) ≡ run_on key rec.ops (get (meaning c) key)
    at_key none key (inl on) =
        quiet_after key (none key on) _ ∙ ap (run_on key rec.ops) (quiet_before key (none key on) _ ∙ sym (meaning-free c kinds key (none key on)))
    at_key none key (inr off) =
        ap (run_on key after) (run_on-away key rec.ops _ off)
        ∙ sym (run_on-away key rec.ops _ off ∙ get-meaning c key ∙ ap (λ (ops : List Op). run_on key ops (body_in ((look c).held_at key))) pending_before ∙ between key before [] after _)

    -- a record with all its operations to do, on keys of no applying record, is put in place of one with none
    pub meaning-applied : ((key : Key) → IsOn key rec.ops → NoneApplies (look c) key) → meaning (insert c (name.Record id) (cell.Record rec)) ≡ effect rec.ops (meaning c)
    meaning-applied none = same_docs _ _ (λ key. body_now key ∙ at_key none key (is_on key rec.ops) ∙ sym (get-effect key rec.ops (meaning c)))

  module _ (rec : Record) (same : SameHeld (look c) (look (insert c (name.Record id) (cell.Record rec)))) (stops : pending_of (look c) rec ≡ []) where
    -- what it has to do on a key changes nothing there, and no other record does
    abbrev Idles : Key → Type 0
    Idles key = OnlyApplies (look c) id key × (run_on key (pending_of (look c) old) (body_in ((look c).held_at key)) ≡ body_in ((look c).held_at key))

    left_out : (key : Key) → IsOn key (pending_of (look c) old) ⊎ (IsOn key (pending_of (look c) old) → ⊥)
        → ((key : Key) → IsOn key (pending_of (look c) old) → Idles key)
        → let s = record_split c kinds id rec in
        let f = flat_map (pending_of (look c)) in
        run_on key (f s.pre ++ ([] ++ f s.post)) (body_in ((look c).held_at key)) ≡ run_on key (f s.pre ++ (pending_of (look c) old ++ f s.post)) (body_in ((look c).held_at key))
    left_out key (inr off) idles =
        let s = record_split c kinds id rec in
        let f = flat_map (pending_of (look c)) in
        between key (f s.pre) [] (f s.post) _ ∙ ap (run_on key (f s.post)) (sym (run_on-away key (pending_of (look c) old) _ off)) ∙ sym (between key (f s.pre) (pending_of (look c) old) (f s.post) _)
    left_out key (inl on) idles =
        let s = record_split c kinds id rec in
        let f = flat_map (pending_of (look c)) in
        let (only, stays) = idles key on in
        let before : run_on key (f s.pre) (body_in ((look c).held_at key)) ≡ body_in ((look c).held_at key) = idle-others c id (look c) key only s.pre s.others_before _ in
        between key (f s.pre) [] (f s.post) _ ∙ ap (run_on key (f s.post)) (before ∙ sym (ap (run_on key (pending_of (look c) old)) before ∙ stays))
        ∙ sym (between key (f s.pre) (pending_of (look c) old) (f s.post) _)

    -- a record whose operations still to be done change nothing is put as one that has nothing to do
    pub meaning-closed : ((key : Key) → IsOn key (pending_of (look c) old) → Idles key) → meaning (insert c (name.Record id) (cell.Record rec)) ≡ meaning c
    meaning-closed idles = same_docs (meaning d) (meaning c) (λ key.
        get-meaning d key
        ∙ ap (run_on key (pending d)) (ap body_in (same.held key))
        ∙ ap (λ (ops : List Op). run_on key ops (body_in ((look c).held_at key)))
        (pending-same c d same (records d) ∙ ap f s.after ∙ flat_map-append (pending_of (look c)) s.pre (rec ∷ s.post) ∙ ap (λ (l : List Op). f s.pre ++ (l ++ f s.post)) stops)
        ∙ left_out key (is_on key (pending_of (look c) old)) idles
        ∙ sym (get-meaning c key ∙ ap (λ (ops : List Op). run_on key ops (body_in ((look c).held_at key))) (splits_at rec (pending_of (look c)))))
      where
        d : Content
        d = insert c (name.Record id) (cell.Record rec)

        s : IsRecordSplit c id (record_at c id) rec (records c) (records d)
        s = record_split c kinds id rec

        f : List Record → List Op
        f = flat_map (pending_of (look c))

  module _ (d : Content) (recs : records d ≡ records c) (op : Op) (elsewhere : HeldElsewhere (look c) (look d) op.key) (only : OnlyApplies (look c) id op.key) where
    others_idle : (view : View) (ops : List Op) → pending_of view old ≡ ops → (body : Option Value) → run_on op.key (flat_map (pending_of view) (records c)) body ≡ run_on op.key ops body
    others_idle view ops to_do body =
        let s = record_split c kinds id old in
        ap (λ (l : List Op). run_on op.key l body) (splits_at old (pending_of view) ∙ ap (λ (l : List Op). flat_map (pending_of view) s.pre ++ (l ++ flat_map (pending_of view) s.post)) to_do)
        ∙ between op.key (flat_map (pending_of view) s.pre) ops (flat_map (pending_of view) s.post) body
        ∙ idle-others c id view op.key only s.post s.others_after _
        ∙ ap (run_on op.key ops) (idle-others c id view op.key only s.pre s.others_before body)

    -- an applying record's pending operation is done: nothing else pends on its key before it
    pub meaning-updated : (found : Value) → body_in ((look c).held_at op.key) ≡ Some found → Taken op (pending_of (look c) old) (pending_of (look d) old)
        → body_in ((look d).held_at op.key) ≡ body_after op.change (body_in ((look c).held_at op.key))
        → meaning d ≡ meaning c
    meaning-updated found there taken done = same_docs (meaning d) (meaning c) (λ key. by key (same_key key op.key) refl)
      where
        at_records : (key : Key) → get (meaning d) key ≡ run_on key (flat_map (pending_of (look d)) (records c)) (body_in ((look d).held_at key))
        at_records key = get-meaning d key ∙ ap (λ (l : List Record). run_on key (flat_map (pending_of (look d)) l) (body_in ((look d).held_at key))) recs

        body : Option Value
        body = body_in ((look c).held_at op.key)

        now : run_on op.key (pending_of (look d) old) (body_after op.change body) ≡ run_on op.key taken.post (body_after op.change body)
        now =
            ap (λ (l : List Op). run_on op.key l (body_after op.change body)) taken.after
            ∙ run_on-append op.key taken.kept taken.post _ ∙ ap (run_on op.key taken.post) (run_on-away op.key taken.kept _ (thinned_away op.key taken.all taken.kept taken.thins))

        before : run_on op.key taken.all body ≡ body
        before = ap (run_on op.key taken.all) there ∙ thinned_run op.key taken.all taken.kept found taken.thins ∙ sym there

        was : run_on op.key (pending_of (look c) old) body ≡ run_on op.key taken.post (body_after op.change body)
        was =
            ap (λ (l : List Op). run_on op.key l body) taken.before
            ∙ run_on-append op.key taken.all (op ∷ taken.post) _
            ∙ ap (run_on op.key (op ∷ taken.post)) before
            ∙ ap (λ (b : Bool). run_on op.key taken.post (if b then body_after op.change body else body)) (same_key-itself op.key)

        here : get (meaning d) op.key ≡ get (meaning c) op.key
        here =
            at_records op.key ∙ others_idle (look d) (pending_of (look d) old) refl _ ∙ ap (run_on op.key (pending_of (look d) old)) done ∙ now
            ∙ sym (get-meaning c op.key ∙ others_idle (look c) (pending_of (look c) old) refl _ ∙ was)

        by : (key : Key) (b : Bool) → same_key key op.key ≡ b → get (meaning d) key ≡ get (meaning c) key
        by key true e = subst (λ (k : Key). get (meaning d) k ≡ get (meaning c) k) (sym (same_key-equal key op.key e)) here
        by key false e =
            let held = elsewhere.held key (same_key-other key op.key e) in
            at_records key ∙ pending-at (look c) (look d) key held (records c) _ ∙ ap (λ (h : Held). run_on key (pending c) (body_in h)) held ∙ sym (get-meaning c key)
