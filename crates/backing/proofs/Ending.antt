-- What the result of a call says about the tree.
use Rattle.std.proofs.Common.{ℕ, ℤ, ◌≡◌, length, List, ◌∷◌, [], Result, Ok, Err, Option, Some, None, true, false, refl, sym, ap, ◌∙◌, subst, inl, inr}
use Rattle.std.proofs.lemmas.Option.{same_Some}
use Rattle.paths.specs.Prefixes.{Names}
use Rattle.backing.specs.declared.call.Answer.{Answer}
use Rattle.backing.specs.declared.call.Answer.TheVariants.{Done, Wrote, Fault}
use Rattle.errno.specs.declared.TheConstants.{ENOMEM}
use Rattle.backing.specs.declared.told.Told.{Told}
use Rattle.backing.specs.declared.refusal.Refusal.{Refusal}
use Rattle.backing.specs.declared.refusal.Refusal.TheVariants.{Errno, Memory}
use Rattle.backing.specs.Tree.{Tree}
use Rattle.backing.specs.Calls.{memory_limit, Asked, AskMake, AskMakeDir, AskWrite, Works, Starves, Does}
use Rattle.backing.specs.Device.{Device, Sound, Before, After}
use Rattle.backing.specs.Memory.{Treated, LetsWork, PutsDir, PutsFile}
use Rattle.backing.specs.Refusals.{Ends, answered, errno_after, settled}

works_refused : (old new : Tree) (call : Asked) (errno : ℤ) → Ends old call (Err (Errno errno)) new → Works memory_limit old call (Fault errno) new
works_refused old new call errno ends = inr (errno, ends.0, refl, ends.1)

abbrev pub failure : ℤ → Told
failure errno = record { answer = Fault errno; failed = true }

works_answered : (old new : Tree) (call : Asked) (ended : Result Answer Refusal) (answer : Answer) → Ends old call ended new → answered ended ≡ Some answer → Works memory_limit old call answer new
works_answered old new call (Ok own) answer ends is = subst (λ (a : Answer). Works memory_limit old call a new) (same_Some own answer is) (inl ends)
works_answered old new call (Err (Errno errno)) answer ends is = subst (λ (a : Answer). Works memory_limit old call a new) (same_Some (Fault errno) answer is) (works_refused old new call errno ends)
works_answered old new call (Err Memory) answer ends is = cc

unanswered : (old new : Tree) (call : Asked) (ended : Result Answer Refusal) → Ends old call ended new → answered ended ≡ None → Starves memory_limit old call × (new ≡ old)
unanswered old new call (Ok own) ends is = cc
unanswered old new call (Err (Errno errno)) ends is = cc
unanswered old new call (Err Memory) ends is = ends

pub soundly_answered : (old new : Tree) (call : Asked) (ended : Result Answer Refusal) (found : Option Answer) (answer : Answer) → Ends old call ended new → found ≡ answered ended → found ≡ Some answer → Treated old Sound call (record { answer = answer; failed = false }) new
soundly_answered old new call ended found answer ends is some = record { device = Sound; treats = inl refl; performs = works_answered old new call ended answer ends (sym is ∙ some); failed = refl }

-- the device let the tree do its work, and memory was refused
starved : (old new : Tree) (planned : Device) (call : Asked) (told : Told) → LetsWork planned → Starves memory_limit old call → new ≡ old → told ≡ failure ENOMEM → Treated old planned call told new
starved old new planned call told lets starves stays is = record {
  device = Before ENOMEM;
  treats = inr (lets, starves, refl);
  performs = (ap (λ (t : Told). t.answer) is, stays);
  failed = ap (λ (t : Told). t.failed) is;
}

pub no_memory : (old new : Tree) (call : Asked) (ended : Result Answer Refusal) (found : Option Answer) (told : Told) → Ends old call ended new → found ≡ answered ended → found ≡ None → told ≡ failure ENOMEM → Treated old Sound call told new
no_memory old new call ended found told ends is none fault =
    let it = unanswered old new call ended ends (sym is ∙ none) in
    starved old new Sound call told tt it.0 it.1 fault

-- a call that failed before its work
pub failed_before : (old : Tree) (call : Asked) (errno : ℤ) (told : Told) → told ≡ failure errno → Treated old (Before errno) call told old
failed_before old call errno told is = record {
  device = Before errno;
  treats = inl refl;
  performs = (ap (λ (t : Told). t.answer) is, refl);
  failed = ap (λ (t : Told). t.failed) is;
}

-- a call that did its work, or was refused, and then failed
failed_after : (old new : Tree) (call : Asked) (errno : ℤ) (told : Told) (own : Answer) → Works memory_limit old call own new → told ≡ failure errno → Treated old (After errno) call told new
failed_after old new call errno told own works is = record {
  device = After errno;
  treats = inl refl;
  performs = (ap (λ (t : Told). t.answer) is, (own, works));
  failed = ap (λ (t : Told). t.failed) is;
}

pub after_work : (old new : Tree) (call : Asked) (ended : Result Answer Refusal) (errno : ℤ) (told : Told) → Ends old call ended new → told ≡ failure (errno_after ended errno) → Treated old (After errno) call told new
after_work old new call (Ok own) errno told ends is = failed_after old new call errno told own (inl ends) is
after_work old new call (Err (Errno refused)) errno told ends is = failed_after old new call errno told (Fault refused) (works_refused old new call refused ends) is
after_work old new call (Err Memory) errno told ends is = starved old new (After errno) call told tt ends.0 ends.1 is

pub puts_dir : (old new : Tree) (p : Names) (ended : Result Answer Refusal) → Ends old (AskMakeDir p None) ended new → PutsDir old p (settled ended) new
puts_dir old new p (Ok answer) ends = inl (ends.0, (refl, ends.1.1))
puts_dir old new p (Err (Errno errno)) ends = inl (works_refused old new (AskMakeDir p None) errno ends)
puts_dir old new p (Err Memory) ends = inr (ends.0, refl, ends.1)

pub puts_no_file : (old new : Tree) (p : Names) (bytes : List ℕ) (made : Result Answer Refusal) (errno : ℤ) → Ends old (AskMake p None) made new → settled made ≡ Err errno → PutsFile old p bytes (Err errno) new
puts_no_file old new p bytes (Ok answer) errno ends is = cc
puts_no_file old new p bytes (Err (Errno refused)) errno ends is =
    let e : refused ≡ errno = cc in
    inl (inl (subst (λ (n : ℤ). Works memory_limit old (AskMake p None) (Fault n) new) e (works_refused old new (AskMake p None) refused ends)))
puts_no_file old new p bytes (Err Memory) errno ends is =
    let e : ENOMEM ≡ errno = cc in
    inl (inr (ends.0, sym e, ends.1))

works_made : (old mid : Tree) (p : Names) (made : Result Answer Refusal) (done : Unit {0}) → Ends old (AskMake p None) made mid → settled made ≡ Ok done → Works memory_limit old (AskMake p None) Done mid
works_made old mid p (Ok answer) done ends is = inl (ends.0, (refl, ends.1.1))
works_made old mid p (Err refusal) done ends is = cc

does_wrote : (old new : Tree) (p : Names) (bytes : List ℕ) (answer : Answer) → Does old (AskWrite p 0 bytes) answer new → (n : ℕ) × Does old (AskWrite p 0 bytes) (Wrote n) new
does_wrote old new p [] answer does = (0, (refl, does.1))
does_wrote old new p (byte ∷ bytes) answer does = (length (byte ∷ bytes), (refl, does.1))

pub puts_file : (old mid new : Tree) (p : Names) (bytes : List ℕ) (made ended : Result Answer Refusal) (done : Unit {0}) → Ends old (AskMake p None) made mid → settled made ≡ Ok done → Ends mid (AskWrite p 0 bytes) ended new → PutsFile old p bytes (settled ended) new
puts_file old mid new p bytes made (Ok answer) done makes is ends =
    let wrote = does_wrote mid new p bytes answer ends.1 in
    (mid, works_made old mid p made done makes is, (wrote.0, inl (ends.0, wrote.1)))
puts_file old mid new p bytes made (Err (Errno errno)) done makes is ends = inr (mid, works_made old mid p made done makes is, inl (works_refused mid new (AskWrite p 0 bytes) errno ends))
puts_file old mid new p bytes made (Err Memory) done makes is ends = inr (mid, works_made old mid p made done makes is, inr (ends.0, refl, ends.1))
