use Rattle.std.proofs.Common.{◌≡◌, ◌+◌, ◌++◌, ℕ, List, [], Some, None, Err, IsTrue, length, take, drop, length-append, length-take, subst, sym, ap, ◌∙◌, arith, add-one, refl}
use Rattle.std.proofs.Math.Nat.{min-eq_left}
use Rattle.txn_io.specs.Faults.{Rose}
use Rattle.txn_io.specs.Lines.{IsPartTaken, line_of, line_cost, limit_passed, reading, unless_passed, first_line}
use Rattle.txn_io.specs.LineParts.{Ends, GoesOn, IsPassed, IsUngathered}
use Rattle.txn_io.specs.Unread.{Unread, IsRefused}
use Rattle.txn_io.specs.declared.lines.LineFault.{LineFault}
use Rattle.txn_io.specs.declared.lines.LineFault.TheVariants.{ReadFault, TooLong, ScriptTooLong, OutOfMemory}
use Rattle.txn_io.specs.declared.source.Source.{Ghosts}
use Rattle.txn_io.proofs.Invariants.{IsSoFar}
use Rattle.txn_io.proofs.Limits.{passed_more, is_limit}
use Rattle.txn_io.proofs.Newlines.{HasNewlineAt, HasNoNewline, front_of_line, line_no_longer}

pub ends_passed : (taken before : ℕ) (line bytes : List ℕ) (index : ℕ) (fault : LineFault) → HasNewlineAt bytes index → before ≡ length line → limit_passed taken (before + index) (before + index + 1) ≡ Some fault → IsPassed taken line bytes fault
ends_passed taken before line bytes index fault at here passed rest =
    let cut : length (line_of (bytes ++ rest)) ≡ index = ap length (at.line rest) ∙ length-take index bytes ∙ min-eq_left (omega (arith, at.within)) in
    let size : length (line ++ line_of (bytes ++ rest)) ≡ before + index = omega (arith, length-append line (line_of (bytes ++ rest)), here, cut) in
    let cost : length line + line_cost (bytes ++ rest) ≡ before + index + 1 = omega (arith, at.cost rest, here) in
    rw (size, cost) passed

pub goes_passed : (taken before : ℕ) (line bytes : List ℕ) (fault : LineFault) → HasNoNewline bytes → before ≡ length line → limit_passed taken (before + length bytes) (before + length bytes) ≡ Some fault → IsPassed taken line bytes fault
goes_passed taken before line bytes fault none here passed rest =
    let size : length (line_of (bytes ++ rest)) ≡ length bytes + length (line_of rest) = ap length (none.line rest) ∙ length-append bytes (line_of rest) in
    let both : length (line ++ line_of (bytes ++ rest)) ≡ length line + length (line_of (bytes ++ rest)) = length-append line (line_of (bytes ++ rest)) in
    passed_more taken (before + length bytes) _ _ fault passed
    (omega (arith, size, both, here))
    (omega (arith, size, both, here, none.cost rest, line_no_longer rest))

pub ends_at : (taken before : ℕ) (line bytes later ahead : List ℕ) (index : ℕ) → HasNewlineAt bytes index → before ≡ length line → limit_passed taken (before + index) (before + index + 1) ≡ None → later ≡ line ++ take index bytes → ahead ≡ drop (index + 1) bytes → Ends taken line bytes later ahead
ends_at taken before line bytes later ahead index at here within gathered left =
    let size : length later ≡ before + index = omega (arith, ap length gathered, length-append line (take index bytes), length-take index bytes, at.within, here) in
    record {
      line = λ rest. gathered ∙ ap (λ x. line ++ x) (sym (at.line rest));
      after = λ rest. ap (λ x. x ++ rest) left ∙ ap (λ n. drop n bytes ++ rest) (add-one index) ∙ sym (at.after rest);
      cost = λ rest. omega (arith, at.cost rest, size, here);
      within = rw size within;
    }

pub goes_on : (taken before : ℕ) (line bytes later ahead : List ℕ) → HasNoNewline bytes → before ≡ length line → limit_passed taken (before + length bytes) (before + length bytes) ≡ None → later ≡ line ++ bytes → ahead ≡ [] → GoesOn taken line bytes later ahead
goes_on taken before line bytes later ahead none here within gathered used =
    let size : length later ≡ before + length bytes = omega (arith, ap length gathered, length-append line bytes, here) in
    record {
      line = gathered;
      more = none.line;
      after = none.after;
      cost = none.cost;
      within = rw size within;
      used = used;
    }

-- where all that was taken was gathered, and no more could be
pub none_lost : (input line ahead rest later now : List ℕ) → IsSoFar input line (ahead ++ rest) → ahead ≡ [] → later ++ now ≡ rest → later ≡ [] → IsPartTaken input now
none_lost input line ahead rest later now so_far used fill none =
    let left : ahead ++ rest ≡ now = ap (λ (l : List ℕ). l ++ rest) used ∙ sym fill ∙ ap (λ (l : List ℕ). l ++ now) none in
    record {
      part = line;
      taken = so_far.whole ∙ ap (λ (l : List ℕ). line ++ l) left;
      within = front_of_line line (ahead ++ rest) (sym (ap line_of so_far.whole) ∙ so_far.line);
    }

-- a limit that these bytes pass, whatever comes after, is why they aren't gathered
pub ungathered : (taken : ℕ) (line ahead : List ℕ) (fault : LineFault) → IsPassed taken line ahead fault → IsUngathered taken line ahead fault
ungathered taken line ahead ReadFault passed = (is_limit taken (length (line ++ line_of (ahead ++ []))) (length line + line_cost (ahead ++ [])) ReadFault (passed [])).0 refl
ungathered taken line ahead TooLong passed = passed
ungathered taken line ahead ScriptTooLong passed = passed
ungathered taken line ahead OutOfMemory passed = tt

-- a limit that the line passes so is what a read of it answers
read_so : (begun taken : ℕ) (input line left : List ℕ) (fault : LineFault) → IsSoFar input line left → taken ≡ begun → limit_passed taken (length (line ++ line_of left)) (length line + line_cost left) ≡ Some fault → reading begun input ≡ Err fault
read_so begun taken input line left fault so_far same passed =
    let whole : limit_passed begun (length (line_of input)) (line_cost input) ≡ Some fault =
    ap (λ (n : ℕ). limit_passed begun (length (line_of input)) n) so_far.cost
    ∙ ap (λ (l : List ℕ). limit_passed begun (length l) (length line + line_cost left)) so_far.line
    ∙ ap (λ (n : ℕ). limit_passed n (length (line ++ line_of left)) (length line + line_cost left)) (sym same) ∙ passed in
    ap (λ p. unless_passed p (first_line input)) whole

-- why bytes aren't gathered is why the line isn't read
pub refused_there : {S : Type 0} (source : Ghosts S) (old now : S) (script : Unread) (taken : ℕ) (line ahead rest left : List ℕ) (fault : LineFault) → (IsTrue source.tells → IsSoFar script.left line left) → (IsTrue source.tells → ahead ++ rest ≡ left) → taken ≡ script.taken → IsUngathered taken line ahead fault → IsRefused source old now script fault
refused_there source old now script taken line ahead rest left ReadFault so_far whole same why = absurd why
refused_there source old now script taken line ahead rest left TooLong so_far whole same why = λ told. read_so _ taken _ line (ahead ++ rest) TooLong (subst (IsSoFar script.left line) (sym (whole told)) (so_far told)) same (why rest)
refused_there source old now script taken line ahead rest left ScriptTooLong so_far whole same why = λ told. read_so _ taken _ line (ahead ++ rest) ScriptTooLong (subst (IsSoFar script.left line) (sym (whole told)) (so_far told)) same (why rest)
refused_there source old now script taken line ahead rest left OutOfMemory so_far whole same why = tt

-- a count that rose from where it stayed rose
pub rose_since : (old now new : ℕ) → now ≡ old → Rose now new → Rose old new
rose_since old now new same rose = subst (λ n. Rose n new) same rose

-- bytes that are taken where all before were used are those that were left
pub filled : {S : Type 0} (rest : S → List ℕ) (ahead taken later : List ℕ) (source fed now : S) → later ≡ taken → now ≡ fed → taken ++ rest fed ≡ rest source → ahead ≡ [] → later ++ rest now ≡ ahead ++ rest source
filled rest ahead taken later source fed now later_is now_is fill none =
    ap (λ (l : List ℕ). l ++ rest now) later_is ∙ ap (λ s. taken ++ rest s) now_is ∙ fill ∙ ap (λ (l : List ℕ). l ++ rest source) (sym none)

pub unfilled : {S : Type 0} (rest : S → List ℕ) (ahead later : List ℕ) (source now : S) → later ≡ ahead → now ≡ source → later ++ rest now ≡ ahead ++ rest source
unfilled rest ahead later source now later_is now_is = ap (λ (l : List ℕ). l ++ rest now) later_is ∙ ap (λ s. ahead ++ rest s) now_is
