-- A request whose opcode the session does not serve is answered ENOSYS, whatever its body.
use Rattle.std.proofs.Common.{ℕ, ℤ, ◌≡◌, ◌⊎◌, ◌==◌, ◌||◌, ◌&&◌, List, Bool, true, false, inl, inr, refl, sym, ap, subst, ◌∙◌}
use Rattle.std.proofs.lemmas.Bool.{eqb-true, true≢false}
use Rattle.errno.specs.declared.TheConstants.{ENOSYS}
use Rattle.terms.specs.declared.settings.Settings.{Settings}
use Rattle.wire.specs.Faults.{IsFirstFault}
use Rattle.wire.specs.Requests.{IsFramed, opcode_in, opcode_of, unique_in}
use Rattle.wire.specs.declared.fault.WireFault.{WireFault}
use Rattle.wire.specs.declared.fault.WireFault.TheVariants as faults
use Rattle.wire.specs.declared.opcode.TheConstants.{LINK, READLINK, SYMLINK}
use Rattle.wire.specs.declared.reply.ReplyBody.TheVariants.{Failed}
use Rattle.wire.specs.declared.request.Request.{Request}
use Rattle.ops.specs.Intents.{Intent, hides_links, intent, is_unserved, refusal_errno, refused}
use Rattle.engine.specs.Classes.{is_unanswered}
use Rattle.engine.specs.Reference.{Answers, Asks, Faults, Serves, Turn}
use Rattle.engine.specs.Tables.{Table}

-- one of three
either_is : (a b c h : Bool) → ((a || b || c) && h) ≡ true → (a ≡ true) ⊎ (b ≡ true) ⊎ (c ≡ true)
either_is true b c h is = inl refl
either_is false true c h is = inr (inl refl)
either_is false false true h is = inr (inr refl)
either_is false false false h is = absurd (true≢false (sym is))

-- such an opcode gets a reply
unserved_answered : (s : Settings) (opcode : ℕ) → is_unserved s opcode ≡ true → is_unanswered opcode ≡ false
unserved_answered s opcode unserved = elim (either_is (opcode == READLINK) (opcode == SYMLINK) (opcode == LINK) (hides_links s.kinds) unserved) [
  | inl reads ↦ subst (λ (o : ℕ). is_unanswered o ≡ false) (sym (eqb-true opcode READLINK reads)) refl
  | inr (inl makes) ↦ subst (λ (o : ℕ). is_unanswered o ≡ false) (sym (eqb-true opcode SYMLINK makes)) refl
  | inr (inr links) ↦ subst (λ (o : ℕ). is_unanswered o ≡ false) (sym (eqb-true opcode LINK links)) refl
]

-- a whole frame of it with a fault
unserved_errno : (s : Settings) (frame : List ℕ) (fault : WireFault) → IsFramed frame → IsFirstFault s.names frame fault → is_unserved s (opcode_in frame) ≡ true → refusal_errno s (opcode_in frame) fault ≡ ENOSYS
unserved_errno s frame faults.Frame framed first unserved = absurd (first framed)
unserved_errno s frame faults.Opcode framed first unserved = rw unserved refl
unserved_errno s frame faults.Body framed first unserved = rw unserved refl
unserved_errno s frame faults.NameLong framed first unserved = rw unserved refl
unserved_errno s frame faults.NameBad framed first unserved = rw unserved refl

unserved_intent : (s : Settings) (q : Request) → is_unserved s (opcode_of q.operation) ≡ true → intent s q ≡ refused ENOSYS
unserved_intent s q unserved = rw unserved refl

pub unserved_refused : {W : Type 0} (table : Table W) (s : Settings) (old : W) (turn : Turn) (new : W) → IsFramed turn.frame → is_unserved s (opcode_in turn.frame) ≡ true → Asks table s old turn new → Answers (unique_in turn.frame) (Failed ENOSYS) old turn new
unserved_refused table s old turn new framed unserved (inl (q, is, serves)) =
    let same : is_unserved s (opcode_of q.operation) ≡ true = ap (λ (opcode : ℕ). is_unserved s opcode) is.opcode ∙ unserved in
    subst (λ (unique : ℕ). Answers unique (Failed ENOSYS) old turn new) is.unique
    (subst (λ (i : Intent). Serves table s q i old turn new) (unserved_intent s q same) serves)
unserved_refused table s old turn new framed unserved (inr (fault, first, faulty)) =
    subst (λ (errno : ℤ). Answers (unique_in turn.frame) (Failed errno) old turn new) (unserved_errno s turn.frame fault framed first unserved)
    (subst (λ (silent : Bool). Faults table s silent fault old turn new) (unserved_answered s (opcode_in turn.frame) unserved) faulty)
