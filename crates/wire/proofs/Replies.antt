-- What is written for a reply is that reply, and no other bytes are.
use Rattle.std.proofs.Common.{◌≡◌, ℕ, ◌+◌, ◌^◌, ◌<◌, ◌≤◌, List, ◌∷◌, ◌++◌, length, drop, refl, sym, ap, ◌∙◌, arith, neg_ℤ, ℤ, FitsSigned, rules}
use Rattle.std.specs.Int.{cast_signed, cast_unsigned, w32}
use Rattle.std.proofs.lemmas.Int.{ints, to_z-of_z, of_z-to_z}
use Rattle.std.proofs.lemmas.List.{drop-drop, length-drop}
use Rattle.byteorder.specs.Endian.{little_number, little_bytes}
use Rattle.byteorder.specs.Numbers.{little_number-reads_back, little_from-lt}
use Rattle.wire.specs.declared.request.TheConstants.{MAX_READ_LEN}
use Rattle.wire.specs.declared.reply.Reply.{Reply}
use Rattle.wire.specs.declared.reply.ReplyBody.{ReplyBody}
use Rattle.wire.specs.declared.reply.ReplyBody.TheVariants.{Failed, Done, Entry, Attributes, Opened, Created, Wrote, Data, StatFs, Init}
use Rattle.wire.specs.Fields.{u32, u64, num, Spells, CanTell, IsBytes}
use Rattle.wire.specs.Replies.{error_of, reply_layout, reply_values, IsErrno, IsAnswer, IsReply}
use Rattle.wire.specs.Written.{le, negated, error_word, body_bytes, reply_bytes}
use Rattle.wire.proofs.Again.{IsBytes-drop, written_spelled}
use Rattle.wire.proofs.Exact.{AreRead, exactly}

-- ---- the error

negated_is : (errno : ℤ) → IsErrno errno → cast_unsigned w32 (neg_ℤ errno) ≡ negated errno
negated_is errno h = omega (arith, ints, h.low, h.high)

word_is : (body : ReplyBody) → IsAnswer body → cast_unsigned w32 (error_of body) ≡ error_word body
word_is (Failed errno) h = negated_is errno h
word_is _ h = refl

word_fits : (body : ReplyBody) → IsAnswer body → error_word body < 256 ^ 4
word_fits (Failed errno) h = omega arith
word_fits _ h = omega arith

word_signed : (body : ReplyBody) → IsAnswer body → FitsSigned w32 (error_of body)
word_signed (Failed errno) h = omega (arith, ints, h.low, h.high)
word_signed _ h = search rules

word_reads : (body : ReplyBody) → IsAnswer body → cast_signed w32 (error_word body) ≡ error_of body
word_reads body h = ap (cast_signed w32) (sym (word_is body h)) ∙ to_z-of_z w32 (error_of body) (word_signed body h)

-- ---- what is written is that reply

pub reply_written : (r : Reply) → IsAnswer r.body → r.unique < 256 ^ 8 → CanTell (reply_layout r.body) (reply_values r.body) → length (body_bytes r.body) ≤ MAX_READ_LEN → IsReply (reply_bytes r) r
unfolding reply_bytes body_bytes le
reply_written r answer unique tells short =
    let body = body_bytes r.body in
    let size = 16 + length body in
    let word = error_word r.body in
    let len : little_number 4 (reply_bytes r) ≡ size = little_number-reads_back 4 size (little_bytes 4 word ++ (little_bytes 8 r.unique ++ body)) (omega arith) in
    let error : little_number 4 (little_bytes 4 word ++ (little_bytes 8 r.unique ++ body)) ≡ word = little_number-reads_back 4 word (little_bytes 8 r.unique ++ body) (word_fits r.body answer) in
    record {
      answer = answer;
      long = omega arith;
      len = len ∙ omega arith;
      error = ap (cast_signed w32) error ∙ word_reads r.body answer;
      unique = sym (little_number-reads_back 8 r.unique body unique);
      body = written_spelled (reply_layout r.body) (reply_values r.body) tells;
    }

-- ---- no other bytes are

all_read : (body : ReplyBody) → AreRead (reply_layout body)
all_read (Failed _) = tt
all_read Done = tt
all_read (Entry _) = tt
all_read (Attributes _) = tt
all_read (Opened _) = tt
all_read (Created _ _) = tt
all_read (Wrote _) = tt
all_read (Data _) = tt
all_read StatFs = tt
all_read (Init _) = tt

pub reply_only : (r : Reply) (frame : List ℕ) → IsBytes frame → IsReply frame r → frame ≡ reply_bytes r
unfolding reply_bytes body_bytes le
reply_only r frame fits is =
    let body = body_bytes r.body in
    let four : IsBytes (drop 4 frame) = IsBytes-drop 4 frame fits in
    let word : little_number 4 (drop 4 frame) ≡ error_word r.body =
    sym (of_z-to_z w32 (little_number 4 (drop 4 frame)) (little_from-lt 0 4 (drop 4 frame) four)) ∙ ap (cast_unsigned w32) is.error ∙ word_is r.body is.answer in
    let long = is.long in
    let eight : drop 4 (drop 4 frame) ≡ drop 8 frame = drop-drop 4 4 frame in
    let sixteen : drop 8 (drop 8 frame) ≡ drop 16 frame = drop-drop 8 8 frame in
    let rest : Spells (reply_layout r.body) (reply_values r.body) (drop 8 (drop 4 (drop 4 frame))) = rw (eight, sixteen) is.body in
    let whole : Spells (u32 ∷ u32 ∷ u64 ∷ reply_layout r.body) (num (length frame) ∷ num (error_word r.body) ∷ num r.unique ∷ reply_values r.body) frame =
    (omega arith, sym is.len, (omega (arith, length-drop 4 frame), sym word, (omega (arith, length-drop 4 frame, length-drop 4 (drop 4 frame)), rw eight is.unique, rest))) in
    let all = exactly (u32 ∷ u32 ∷ u64 ∷ reply_layout r.body) (num (length frame) ∷ num (error_word r.body) ∷ num r.unique ∷ reply_values r.body) frame (all_read r.body) fits whole in
    let size : length frame ≡ 16 + length body = ap length all ∙ omega arith in
    all ∙ ap (λ (n : ℕ). little_bytes 4 n ++ (little_bytes 4 (error_word r.body) ++ (little_bytes 8 r.unique ++ body))) size
