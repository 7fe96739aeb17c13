-- What is written for a request is that request.
use Rattle.std.proofs.Common.{◌≡◌, ℕ, zero, suc, ◌+◌, ◌*◌, ◌/◌, ◌^◌, ◌<◌, ◌≤◌, List, [], ◌∷◌, ◌++◌, length, get_or, drop, Option, Some, None, refl, sym, ap, subst, ◌∙◌, arith}
use Rattle.std.proofs.lemmas.List.{drop_at, take_at, length-take, length-append, length-drop, get_or-drop, get_or-append-add}
use Rattle.std.proofs.Math.Nat.{div-zero, mul-div_cancel_left}
use Rattle.byteorder.specs.Endian.{little_number, little_bytes}
use Rattle.byteorder.specs.Numbers.{little_number-reads_back, little_from-lt, length-bytes_low_first}
use Rattle.terms.specs.declared.settings.Names.{Names}
use Rattle.wire.specs.declared.request.Caller.{Caller}
use Rattle.wire.specs.declared.request.Request.{Request}
use Rattle.wire.specs.Fields.{Field, number, unread, raw, text, link_text, counted, limited, anything, Value, num, name, bytes, Spells, CanTell, IsBytes}
use Rattle.wire.specs.Requests.{layout, opcode_of, values_of, opcode_in, caller_in, body_in, IsLaidOut, IsRequest}
use Rattle.wire.proofs.Lengths.{length-zeros}
use Rattle.wire.specs.Written.{le, zeros, written, written_by, operation_bytes, request_bytes}

pub IsBytes-drop : (n : ℕ) (body : List ℕ) → IsBytes body → IsBytes (drop n body)
IsBytes-drop n body h i = rw (get_or-drop n body i 0) (h (n + i))

pub IsBytes-rest : (t rest body : List ℕ) → body ≡ t ++ 0 ∷ rest → IsBytes body → IsBytes rest
IsBytes-rest t rest body e h i =
    let at : get_or body (length t + suc i) 0 ≡ get_or rest i 0 = rw e (get_or-append-add t (0 ∷ rest) (suc i) 0) in
    rw (← at) (h (length t + suc i))

written_len : (fields : List Field) (values : List Value) (body : List ℕ) → Spells fields values body → length (written fields values) ≤ length body
unfolding le
written_len [] [] body s = omega (arith, ap length (sym s))
written_len (number len ∷ fields) (num n ∷ values) body s =
    omega (arith, length-append (little_bytes len n) (written fields values), length-bytes_low_first 0 len n, length-drop len body, written_len fields values (drop len body) s.2, s.0)
written_len (unread len ∷ fields) values body s =
    omega (arith, length-append (zeros len) (written fields values), length-zeros len, length-drop len body, written_len fields values (drop len body) s.1, s.0)
written_len (raw len ∷ fields) (bytes d ∷ values) body s =
    omega (arith, length-append d (written fields values), ap length s.1, length-take len body, length-drop len body, written_len fields values (drop len body) s.2, s.0)
written_len (text ∷ fields) (name t ∷ values) body s =
    omega (arith, length-append t (0 ∷ written fields values), ap length s.2, length-append t (0 ∷ s.1), written_len fields values s.1 s.3)
written_len (link_text ∷ fields) (bytes t ∷ values) body s =
    omega (arith, length-append t (0 ∷ written fields values), ap length s.2, length-append t (0 ∷ s.1), written_len fields values s.1 s.3)
written_len (counted unit gap limit ∷ []) (bytes d ∷ []) body s =
    omega (arith, length-append (little_bytes 4 (length d / unit) ++ zeros gap) d, length-append (little_bytes 4 (length d / unit)) (zeros gap), length-zeros gap, ap length s.2, length-drop (4 + gap) body, s.0)
written_len (limited limit ∷ fields) (num n ∷ values) body s =
    omega (arith, length-append (little_bytes 4 n) (written fields values), length-drop 4 body, written_len fields values (drop 4 body) s.3, s.0)
written_len (anything ∷ []) [] body s = omega arith
written_len _ _ body s = absurd s

count_again : (unit k len limit : ℕ) → len ≡ unit * k → k < 256 ^ 4 → k ≤ limit → (len / unit < 256 ^ 4) × (len / unit ≤ limit) × (len ≡ unit * (len / unit))
count_again zero k len limit e lt le = let z : len / 0 ≡ 0 = div-zero len in (omega arith, omega arith, omega arith)
count_again (suc u) k len limit e lt le =
    let above : zero < suc u = omega arith in
    let q : len / suc u ≡ k = rw e (mul-div_cancel_left k above) in
    (omega arith, omega arith, rw q e)

-- the values of fields fit in them
pub told_again : (fields : List Field) (values : List Value) (body : List ℕ) → IsBytes body → Spells fields values body → CanTell fields values
told_again [] [] body fits s = tt
told_again (number len ∷ fields) (num n ∷ values) body fits s =
    (rw s.1 (little_from-lt 0 len body fits), told_again fields values (drop len body) (IsBytes-drop len body fits) s.2)
told_again (unread len ∷ fields) values body fits s = told_again fields values (drop len body) (IsBytes-drop len body fits) s.1
told_again (raw len ∷ fields) (bytes d ∷ values) body fits s =
    (omega (arith, ap length s.1, length-take len body, s.0), told_again fields values (drop len body) (IsBytes-drop len body fits) s.2)
told_again (text ∷ fields) (name t ∷ values) body fits s = (s.0, told_again fields values s.1 (IsBytes-rest t s.1 body s.2 fits) s.3)
told_again (link_text ∷ fields) (bytes t ∷ values) body fits s = (s.0, told_again fields values s.1 (IsBytes-rest t s.1 body s.2 fits) s.3)
told_again (counted unit gap limit ∷ []) (bytes d ∷ []) body fits s = (little_number 4 body, little_from-lt 0 4 body fits, s.1, s.3)
told_again (limited limit ∷ fields) (num n ∷ values) body fits s =
    (rw s.1 (little_from-lt 0 4 body fits), s.2, told_again fields values (drop 4 body) (IsBytes-drop 4 body fits) s.3)
told_again (anything ∷ []) [] body fits s = tt
told_again _ _ body fits s = absurd s

-- values that fit in fields are read back from what is written
pub written_spelled : (fields : List Field) (values : List Value) → CanTell fields values → Spells fields values (written fields values)
unfolding le
written_spelled [] [] h = refl
written_spelled (number len ∷ fields) (num n ∷ values) h =
    let w = written fields values in
    let rest : drop len (little_bytes len n ++ w) ≡ w = drop_at (little_bytes len n) w len (length-bytes_low_first 0 len n) in
    (omega (arith, length-append (little_bytes len n) w, length-bytes_low_first 0 len n), sym (little_number-reads_back len n w h.0), subst (Spells fields values) (sym rest) (written_spelled fields values h.1))
written_spelled (unread len ∷ fields) values h =
    let w = written fields values in
    let rest : drop len (zeros len ++ w) ≡ w = drop_at (zeros len) w len (length-zeros len) in
    (omega (arith, length-append (zeros len) w, length-zeros len), subst (Spells fields values) (sym rest) (written_spelled fields values h))
written_spelled (raw len ∷ fields) (bytes d ∷ values) h =
    let w = written fields values in
    let rest : drop len (d ++ w) ≡ w = drop_at d w len h.0 in
    (omega (arith, length-append d w, h.0), sym (take_at d w len h.0), subst (Spells fields values) (sym rest) (written_spelled fields values h.1))
written_spelled (text ∷ fields) (name t ∷ values) h = (h.0, written fields values, refl, written_spelled fields values h.1)
written_spelled (link_text ∷ fields) (bytes t ∷ values) h = (h.0, written fields values, refl, written_spelled fields values h.1)
written_spelled (counted unit gap limit ∷ []) (bytes d ∷ []) h =
    let n = length d / unit in
    let k = count_again unit h.0 (length d) limit h.3 h.1 h.2 in
    let back : little_number 4 (little_bytes 4 n ++ zeros gap ++ d) ≡ n = little_number-reads_back 4 n (zeros gap ++ d) k.0 in
    let rest : drop (4 + gap) (little_bytes 4 n ++ zeros gap ++ d) ≡ d = drop_at (little_bytes 4 n ++ zeros gap) d (4 + gap) (omega (arith, length-append (little_bytes 4 n) (zeros gap), length-zeros gap)) in
    (omega (arith, length-append (little_bytes 4 n ++ zeros gap) d, length-append (little_bytes 4 n) (zeros gap), length-zeros gap), rw back k.1, sym rest, rw back k.2)
written_spelled (limited limit ∷ fields) (num n ∷ values) h =
    let w = written fields values in
    (omega (arith, length-append (little_bytes 4 n) w), sym (little_number-reads_back 4 n w h.0), h.1, written_spelled fields values h.2)
written_spelled (anything ∷ []) [] h = tt
written_spelled _ _ h = absurd h

laid_again : (o : Option (List Field)) (values : List Value) (body : List ℕ) → IsBytes body → IsLaidOut o values body → IsLaidOut o values (written_by o values) × (length (written_by o values) ≤ length body)
laid_again None values body fits s = absurd s
laid_again (Some fields) values body fits s = (written_spelled fields values (told_again fields values body fits s), written_len fields values body s)

same_caller : (a b : Caller) → a.uid ≡ b.uid → a.gid ≡ b.gid → a ≡ b
same_caller a b user group = λ i. record { uid = user i; gid = group i }

pub request_written : (names : Names) (frame : List ℕ) (r : Request) → IsBytes frame → IsRequest names frame r → IsRequest names (request_bytes r) r
unfolding request_bytes le zeros
request_written names frame r fits q =
    let opcode = opcode_of r.operation in
    let uid = r.caller.uid in
    let gid = r.caller.gid in
    let body = operation_bytes r.operation in
    let again = laid_again (layout opcode) (values_of r.operation) (body_in frame) (IsBytes-drop 40 frame fits) (rw q.opcode q.body) in
    let long = q.framed.long in
    let short = q.framed.short in
    let len : 40 + length body ≤ length frame = omega (arith, again.1, length-drop 40 frame) in
    let one : opcode < 256 ^ 4 = rw q.opcode (little_from-lt 0 4 (drop 4 frame) (IsBytes-drop 4 frame fits)) in
    let two : r.unique < 256 ^ 8 = rw q.unique (little_from-lt 0 8 (drop 8 frame) (IsBytes-drop 8 frame fits)) in
    let three : r.node < 256 ^ 8 = rw q.node (little_from-lt 0 8 (drop 16 frame) (IsBytes-drop 16 frame fits)) in
    let four : 40 + length body < 256 ^ 4 = omega arith in
    let five : uid < 256 ^ 4 = rw q.caller (little_from-lt 0 4 (drop 24 frame) (IsBytes-drop 24 frame fits)) in
    let six : gid < 256 ^ 4 = rw q.caller (little_from-lt 0 4 (drop 28 frame) (IsBytes-drop 28 frame fits)) in
    let rest = zeros 8 ++ body in
    let owned = little_bytes 4 uid ++ (little_bytes 4 gid ++ rest) in
    let op : opcode ≡ opcode_in (request_bytes r) = sym (little_number-reads_back 4 opcode (little_bytes 8 r.unique ++ (little_bytes 8 r.node ++ owned)) one) in
    let user : uid ≡ (caller_in (request_bytes r)).uid = sym (little_number-reads_back 4 uid (little_bytes 4 gid ++ rest) five) in
    let group : gid ≡ (caller_in (request_bytes r)).gid = sym (little_number-reads_back 4 gid rest six) in
    record {
      framed = record {
        long = omega arith;
        short = omega arith;
        len = little_number-reads_back 4 (40 + length body) (little_bytes 4 opcode ++ (little_bytes 8 r.unique ++ (little_bytes 8 r.node ++ owned))) four ∙ omega arith;
      };
      opcode = op;
      unique = sym (little_number-reads_back 8 r.unique (little_bytes 8 r.node ++ owned) two);
      node = sym (little_number-reads_back 8 r.node owned three);
      caller = same_caller r.caller (caller_in (request_bytes r)) user group;
      body = subst (λ k. IsLaidOut (layout k) (values_of r.operation) (body_in (request_bytes r))) op again.0;
      lawful = q.lawful;
    }
