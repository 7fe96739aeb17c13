-- Reading a body gives the values that the body spells, and it fails only if the body spells none.
use Rattle.std.proofs.Common.{◌≡◌, ◌≢◌, ℕ, ◌+◌, ◌*◌, ◌<◌, ◌≤◌, Bool, true, false, cond, eqb, ltb, leb, not, ◌&&◌, List, [], ◌∷◌, ◌++◌, length, get_or, take, drop, All, Option, Some, None, Result, Ok, Err, refl, sym, ap, subst, ◌∙◌, arith}
use Rattle.std.specs.Prelude.{MatchResult, IfErr}
use Rattle.std.specs.List.{position, position_or_len}
use Rattle.std.proofs.lemmas.Bool.{and_parts, leb-true, le-leb, eq-eqb, eqb-true, ltb-true, ltb-false, le-ltb, lt-ltb}
use Rattle.std.proofs.lemmas.List.{nil_from_length, take-append-drop, take_at, drop_at, drop_more, drop-drop, get_or_append_left, get_or_at, length-append, length-take, get_or-take}
use Rattle.std.proofs.lemmas.List.Sums.{position_or_len_is, prefix_len_passes, prefix_len_stops}
use Rattle.byteorder.specs.Endian.{little_number}
use Rattle.wire.specs.declared.fault.WireFault.{WireFault}
use Rattle.wire.specs.declared.fault.WireFault.TheVariants.{Body}
use Rattle.wire.specs.Fields.{Field, number, unread, raw, text, link_text, counted, limited, anything, Value, num, name, bytes, Spells}
use Rattle.wire.specs.Reading.{◌>>=◌, number_at, unread_at, raw_at, text_at, text_before, counted_at, limited_at, ended, values_at}

-- the value of a step that did not fail
pub bind_ok : {A B : Type 0} (r : Result A WireFault) (f : A → Result B WireFault) (y : B) → (r >>= f) ≡ Ok y → (x : A) × (r ≡ Ok x) × (f x ≡ Ok y)
bind_ok (Ok x) f y e = (x, refl, e)
bind_ok (Err d) f y e = absurd cc

-- a test that did not fail
pub guard_ok : {A : Type 0} (b : Bool) (d : WireFault) (x y : A) → cond b (Err d) (Ok x) ≡ Ok y → (b ≡ false) × (x ≡ y)
guard_ok true d x y e = absurd cc
guard_ok false d x y e = (refl, cc)

pub guard_else : {A : Type 0} (b : Bool) (d : WireFault) (x y : A) → cond b (Ok x) (Err d) ≡ Ok y → (b ≡ true) × (x ≡ y)
guard_else true d x y e = (refl, cc)
guard_else false d x y e = absurd cc

abbrev done : {A : Type 0} → A → Result A WireFault
done x = Ok x

pub ok_is : {A : Type 0} (x y : A) → done x ≡ done y → x ≡ y
ok_is x y e = cc

-- ---- texts

abbrev is_zero : ℕ → Bool
is_zero b = eqb b 0

-- a text, a zero byte and the rest
pub record IsText (body t rest : List ℕ) : Type 0 where
  pub parts : body ≡ t ++ 0 ∷ rest
  pub no_zero : All (λ b. b ≢ 0) t

not_zero : (n : ℕ) → n ≢ 0 → is_zero n ≡ false
not_zero n h = elim (is_zero n) as (λ b. is_zero n ≡ b → b ≡ false) [ true ↦ λ e. absurd (h (eqb-true n 0 e)) | false ↦ λ e. refl ] refl

-- the position of the zero byte after a text without one
zero_place : (t rest : List ℕ) → All (λ b. b ≢ 0) t → position_or_len is_zero (t ++ 0 ∷ rest) ≡ length t
zero_place t rest fits =
    position_or_len_is is_zero (t ++ 0 ∷ rest) (length t) 0
    (omega (arith, length-append t (0 ∷ rest)))
    (λ k lt. rw (get_or_append_left t (0 ∷ rest) 0 k lt) (not_zero (get_or t k 0) (fits k 0 lt)))
    (λ _. rw (get_or_at t 0 rest 0 (length t) refl) refl)

rest_after : (t rest : List ℕ) → drop (length t + 1) (t ++ 0 ∷ rest) ≡ rest
rest_after t rest = sym (drop-drop 1 (length t) (t ++ 0 ∷ rest)) ∙ ap (drop 1) (drop_at t (0 ∷ rest) (length t) refl)

pub text_again : (body t rest : List ℕ) → IsText body t rest → text_at body ≡ Ok (t, rest)
text_again body t rest s =
    let within : ltb (length t) (length (t ++ 0 ∷ rest)) ≡ true = lt-ltb _ _ (omega (arith, length-append t (0 ∷ rest))) in
    rw (s.parts, zero_place t rest s.no_zero, within, take_at t (0 ∷ rest) (length t) refl, rest_after t rest) refl

place_found : (b : Bool) (p : ℕ) (body : List ℕ) (x : List ℕ × List ℕ) → text_before (cond b (Some p) None) body ≡ Ok x → (b ≡ true) × (take p body ≡ x.0) × (drop (p + 1) body ≡ x.1)
place_found true p body x e = (refl, ap (λ (y : List ℕ × List ℕ). y.0) (ok_is (take p body, drop (p + 1) body) x e), ap (λ (y : List ℕ × List ℕ). y.1) (ok_is (take p body, drop (p + 1) body) x e))
place_found false p body x e = absurd cc

is_not : (b : Bool) → not b ≡ true → b ≡ false
is_not true e = absurd cc
is_not false e = refl

was_not : (b : Bool) → not b ≡ false → b ≡ true
was_not true e = refl
was_not false e = absurd cc

zero_is : (n : ℕ) → is_zero n ≡ false → n ≢ 0
zero_is n e z = let two : is_zero n ≡ true = rw z refl in absurd cc

pub text_takes : (body : List ℕ) (x : List ℕ × List ℕ) → text_at body ≡ Ok x → IsText body x.0 x.1
text_takes body x e =
    let p = position_or_len is_zero body in
    let found = place_found (ltb p (length body)) p body x e in
    let within : p < length body = ltb-true _ _ found.0 in
    let here : get_or body p 0 ≡ 0 = eqb-true _ _ (was_not _ (prefix_len_stops (λ b. not (is_zero b)) body 0 within)) in
    let whole : body ≡ take p body ++ 0 ∷ drop (p + 1) body = sym (take-append-drop p body) ∙ ap (λ (r : List ℕ). take p body ++ r) (drop_more body p 0 within ∙ ap (λ (b : ℕ). b ∷ drop (p + 1) body) here) in
    let before : All (λ b. b ≢ 0) (take p body) = λ k d lt.
    let below : k < p = omega (arith, length-take p body) in
    rw (get_or-take p body k d below) (zero_is (get_or body k d) (is_not _ (prefix_len_passes (λ b. not (is_zero b)) body k d below))) in
    rw (← found.1, ← found.2) (record { parts = whole; no_zero = before })

-- ---- a number, and as many bytes as it says

guard_then : {A : Type 0} (b : Bool) (d : WireFault) (r : Result A WireFault) (y : A) → cond b (Err d) r ≡ Ok y → (b ≡ false) × (r ≡ Ok y)
guard_then true d r y e = absurd cc
guard_then false d r y e = (refl, e)

counted_takes : (unit gap limit : ℕ) (body d : List ℕ) → counted_at unit gap limit body ≡ Ok d → Spells (counted unit gap limit ∷ []) (bytes d ∷ []) body
counted_takes unit gap limit body d e =
    let rest = drop (4 + gap) body in
    let test = leb (little_number 4 body) limit && eqb (length rest) (unit * little_number 4 body) in
    let g = guard_then (ltb (length body) (4 + gap)) Body (cond test (Ok rest) (Err Body)) d e in
    let h = guard_else test Body rest d g.1 in
    let both = and_parts (leb (little_number 4 body) limit) (eqb (length rest) (unit * little_number 4 body)) h.0 in
    (ltb-false _ _ g.0, leb-true _ _ both.0, sym h.1, ap length (sym h.1) ∙ eqb-true _ _ both.1)

counted_again : (unit gap limit : ℕ) (body d : List ℕ) → Spells (counted unit gap limit ∷ []) (bytes d ∷ []) body → counted_at unit gap limit body ≡ Ok d
counted_again unit gap limit body d s =
    let same : length (drop (4 + gap) body) ≡ unit * little_number 4 body = ap length (sym s.2) ∙ s.3 in
    rw (le-ltb _ _ s.0, le-leb _ _ s.1, eq-eqb _ _ same) (ap done (sym s.2))

-- ---- a body

abbrev first_then : Value → List Value → Result (List Value) WireFault
first_then v values = Ok (v ∷ values)

-- the body ends here
ended_ok : (body : List ℕ) (x : Bool) → ended body ≡ Ok x → body ≡ []
ended_ok body x e = nil_from_length body (eqb-true _ _ (guard_else (eqb (length body) 0) Body true x e).0)

pub values_spelled : (fields : List Field) (values : List Value) (body : List ℕ) → values_at fields body ≡ Ok values → Spells fields values body
values_spelled [] values body e =
    let a = bind_ok (ended body) (λ _. done []) values e in
    subst (λ (vs : List Value). Spells [] vs body) (ok_is [] values a.2) (ended_ok body a.0 a.1)
values_spelled (number len ∷ fields) values body e =
    let a = bind_ok (number_at len body) (λ x. values_at fields x.1 >>= first_then (num x.0)) values e in
    let b = bind_ok (values_at fields a.0.1) (first_then (num a.0.0)) values a.2 in
    let g = guard_ok (ltb (length body) len) Body (little_number len body, drop len body) a.0 a.1 in
    let rest : drop len body ≡ a.0.1 = ap (λ (y : ℕ × List ℕ). y.1) g.1 in
    let n : little_number len body ≡ a.0.0 = ap (λ (y : ℕ × List ℕ). y.0) g.1 in
    let one : Spells (number len ∷ fields) (num a.0.0 ∷ b.0) body = (ltb-false _ _ g.0, sym n, subst (Spells fields b.0) (sym rest) (values_spelled fields b.0 a.0.1 b.1)) in
    subst (λ (vs : List Value). Spells (number len ∷ fields) vs body) (ok_is (num a.0.0 ∷ b.0) values b.2) one
values_spelled (unread len ∷ fields) values body e =
    let a = bind_ok (unread_at len body) (λ rest. values_at fields rest) values e in
    let g = guard_ok (ltb (length body) len) Body (drop len body) a.0 a.1 in
    (ltb-false _ _ g.0, subst (Spells fields values) (sym g.1) (values_spelled fields values a.0 a.2))
values_spelled (raw len ∷ fields) values body e =
    let a = bind_ok (raw_at len body) (λ x. values_at fields x.1 >>= first_then (bytes x.0)) values e in
    let b = bind_ok (values_at fields a.0.1) (first_then (bytes a.0.0)) values a.2 in
    let g = guard_ok (ltb (length body) len) Body (take len body, drop len body) a.0 a.1 in
    let rest : drop len body ≡ a.0.1 = ap (λ (y : List ℕ × List ℕ). y.1) g.1 in
    let front : take len body ≡ a.0.0 = ap (λ (y : List ℕ × List ℕ). y.0) g.1 in
    let one : Spells (raw len ∷ fields) (bytes a.0.0 ∷ b.0) body = (ltb-false _ _ g.0, sym front, subst (Spells fields b.0) (sym rest) (values_spelled fields b.0 a.0.1 b.1)) in
    subst (λ (vs : List Value). Spells (raw len ∷ fields) vs body) (ok_is (bytes a.0.0 ∷ b.0) values b.2) one
values_spelled (text ∷ fields) values body e =
    let a = bind_ok (text_at body) (λ x. values_at fields x.1 >>= first_then (name x.0)) values e in
    let b = bind_ok (values_at fields a.0.1) (first_then (name a.0.0)) values a.2 in
    let t = text_takes body a.0 a.1 in
    let one : Spells (text ∷ fields) (name a.0.0 ∷ b.0) body = (t.no_zero, a.0.1, t.parts, values_spelled fields b.0 a.0.1 b.1) in
    subst (λ (vs : List Value). Spells (text ∷ fields) vs body) (ok_is (name a.0.0 ∷ b.0) values b.2) one
values_spelled (link_text ∷ fields) values body e =
    let a = bind_ok (text_at body) (λ x. values_at fields x.1 >>= first_then (bytes x.0)) values e in
    let b = bind_ok (values_at fields a.0.1) (first_then (bytes a.0.0)) values a.2 in
    let t = text_takes body a.0 a.1 in
    let one : Spells (link_text ∷ fields) (bytes a.0.0 ∷ b.0) body = (t.no_zero, a.0.1, t.parts, values_spelled fields b.0 a.0.1 b.1) in
    subst (λ (vs : List Value). Spells (link_text ∷ fields) vs body) (ok_is (bytes a.0.0 ∷ b.0) values b.2) one
values_spelled (counted unit gap limit ∷ []) values body e =
    let a = bind_ok (counted_at unit gap limit body) (λ d. done (bytes d ∷ [])) values e in
    subst (λ (vs : List Value). Spells (counted unit gap limit ∷ []) vs body) (ok_is (bytes a.0 ∷ []) values a.2) (counted_takes unit gap limit body a.0 a.1)
values_spelled (counted unit gap limit ∷ field ∷ fields) values body e = absurd cc
values_spelled (limited limit ∷ fields) values body e =
    let a = bind_ok (limited_at limit body) (λ x. values_at fields x.1 >>= first_then (num x.0)) values e in
    let b = bind_ok (values_at fields a.0.1) (first_then (num a.0.0)) values a.2 in
    let n = bind_ok (number_at 4 body) (λ x. cond (leb x.0 limit) (done x) (Err Body)) a.0 a.1 in
    let g = guard_ok (ltb (length body) 4) Body (little_number 4 body, drop 4 body) n.0 n.1 in
    let h = guard_else (leb n.0.0 limit) Body n.0 a.0 n.2 in
    let whole : (little_number 4 body, drop 4 body) ≡ a.0 = g.1 ∙ h.1 in
    let rest : drop 4 body ≡ a.0.1 = ap (λ (y : ℕ × List ℕ). y.1) whole in
    let is : little_number 4 body ≡ a.0.0 = ap (λ (y : ℕ × List ℕ). y.0) whole in
    let below : a.0.0 ≤ limit = subst (λ (y : ℕ × List ℕ). y.0 ≤ limit) h.1 (leb-true _ _ h.0) in
    let one : Spells (limited limit ∷ fields) (num a.0.0 ∷ b.0) body = (ltb-false _ _ g.0, sym is, below, subst (Spells fields b.0) (sym rest) (values_spelled fields b.0 a.0.1 b.1)) in
    subst (λ (vs : List Value). Spells (limited limit ∷ fields) vs body) (ok_is (num a.0.0 ∷ b.0) values b.2) one
values_spelled (anything ∷ []) values body e = subst (λ (vs : List Value). Spells (anything ∷ []) vs body) (ok_is [] values e) tt
values_spelled (anything ∷ field ∷ fields) values body e = absurd cc

pub spelled_values : (fields : List Field) (values : List Value) (body : List ℕ) → Spells fields values body → values_at fields body ≡ Ok values
spelled_values [] [] body s = rw s refl
spelled_values (number len ∷ fields) (num n ∷ values) body s =
    rw (le-ltb _ _ s.0, spelled_values fields values (drop len body) s.2) (ap (λ (k : ℕ). done (num k ∷ values)) (sym s.1))
spelled_values (unread len ∷ fields) values body s =
    rw (le-ltb _ _ s.0, spelled_values fields values (drop len body) s.1) refl
spelled_values (raw len ∷ fields) (bytes d ∷ values) body s =
    rw (le-ltb _ _ s.0, spelled_values fields values (drop len body) s.2) (ap (λ (t : List ℕ). done (bytes t ∷ values)) (sym s.1))
spelled_values (text ∷ fields) (name t ∷ values) body s =
    rw (text_again body t s.1 (record { parts = s.2; no_zero = s.0 }), spelled_values fields values s.1 s.3) refl
spelled_values (link_text ∷ fields) (bytes t ∷ values) body s =
    rw (text_again body t s.1 (record { parts = s.2; no_zero = s.0 }), spelled_values fields values s.1 s.3) refl
spelled_values (counted unit gap limit ∷ []) (bytes d ∷ []) body s =
    ap (λ r. r >>= λ (x : List ℕ). done (bytes x ∷ [])) (counted_again unit gap limit body d s)
spelled_values (limited limit ∷ fields) (num n ∷ values) body s =
    let below : leb (little_number 4 body) limit ≡ true = rw (← s.1) (le-leb _ _ s.2) in
    rw (le-ltb _ _ s.0, below, spelled_values fields values (drop 4 body) s.3) (ap (λ (k : ℕ). done (num k ∷ values)) (sym s.1))
spelled_values (anything ∷ []) [] body s = refl
spelled_values _ _ body s = absurd s

-- ---- a body that cannot be read gives the fault Body

abbrev OnlyBody : {A : Type 0} → Result A WireFault → Type 0
OnlyBody r = IfErr r (λ d. d ≡ Body)

only_guard : {A : Type 0} (b : Bool) (x : A) → OnlyBody (cond b (Err Body) (done x))
only_guard true x = refl
only_guard false x = tt

only_else : {A : Type 0} (b : Bool) (x : A) → OnlyBody (cond b (done x) (Err Body))
only_else true x = tt
only_else false x = refl

only_nested : {A : Type 0} (b c : Bool) (x : A) → OnlyBody (cond b (Err Body) (cond c (done x) (Err Body)))
only_nested true c x = refl
only_nested false c x = only_else c x

only_text : (o : Option ℕ) (body : List ℕ) → OnlyBody (text_before o body)
only_text None body = refl
only_text (Some end) body = tt

only_then : {A B : Type 0} (r : Result A WireFault) (f : A → Result B WireFault) → OnlyBody r → ((x : A) → OnlyBody (f x)) → OnlyBody (r >>= f)
only_then (Ok x) f h k = k x
only_then (Err d) f h k = h

pub only_body : (fields : List Field) (body : List ℕ) → OnlyBody (values_at fields body)
only_body [] body = only_then (ended body) (λ _. done []) (only_else (eqb (length body) 0) true) (λ _. tt)
only_body (number len ∷ fields) body =
    only_then (number_at len body) (λ x. values_at fields x.1 >>= first_then (num x.0)) (only_guard (ltb (length body) len) (little_number len body, drop len body))
    (λ x. only_then (values_at fields x.1) (first_then (num x.0)) (only_body fields x.1) (λ _. tt))
only_body (unread len ∷ fields) body =
    only_then (unread_at len body) (λ rest. values_at fields rest) (only_guard (ltb (length body) len) (drop len body)) (λ rest. only_body fields rest)
only_body (raw len ∷ fields) body =
    only_then (raw_at len body) (λ x. values_at fields x.1 >>= first_then (bytes x.0)) (only_guard (ltb (length body) len) (take len body, drop len body))
    (λ x. only_then (values_at fields x.1) (first_then (bytes x.0)) (only_body fields x.1) (λ _. tt))
only_body (text ∷ fields) body =
    only_then (text_at body) (λ x. values_at fields x.1 >>= first_then (name x.0)) (only_text (position is_zero body) body)
    (λ x. only_then (values_at fields x.1) (first_then (name x.0)) (only_body fields x.1) (λ _. tt))
only_body (link_text ∷ fields) body =
    only_then (text_at body) (λ x. values_at fields x.1 >>= first_then (bytes x.0)) (only_text (position is_zero body) body)
    (λ x. only_then (values_at fields x.1) (first_then (bytes x.0)) (only_body fields x.1) (λ _. tt))
only_body (counted unit gap limit ∷ []) body =
    only_then (counted_at unit gap limit body) (λ d. done (bytes d ∷ []))
    (only_nested (ltb (length body) (4 + gap)) (leb (little_number 4 body) limit && eqb (length (drop (4 + gap) body)) (unit * little_number 4 body)) (drop (4 + gap) body)) (λ _. tt)
only_body (counted unit gap limit ∷ field ∷ fields) body = refl
only_body (limited limit ∷ fields) body =
    only_then (limited_at limit body) (λ x. values_at fields x.1 >>= first_then (num x.0))
    (only_then (number_at 4 body) (λ x. cond (leb x.0 limit) (done x) (Err Body)) (only_guard (ltb (length body) 4) (little_number 4 body, drop 4 body)) (λ x. only_else (leb x.0 limit) x))
    (λ x. only_then (values_at fields x.1) (first_then (num x.0)) (only_body fields x.1) (λ _. tt))
only_body (anything ∷ []) body = tt
only_body (anything ∷ field ∷ fields) body = refl

pub values_law : (fields : List Field) (body : List ℕ) → MatchResult (values_at fields body) (λ values. Spells fields values body) (λ d. (d ≡ Body) × ((values : List Value) → Spells fields values body → ⊥))
values_law fields body =
    elim (values_at fields body) as (λ r. values_at fields body ≡ r → OnlyBody r → MatchResult r (λ values. Spells fields values body) (λ d. (d ≡ Body) × ((values : List Value) → Spells fields values body → ⊥))) [
      | Ok values ↦ λ e only. values_spelled fields values body e
      | Err d ↦ λ e only. (only, λ values s. let two = spelled_values fields values body s in absurd cc)
    ] refl (only_body fields body)
