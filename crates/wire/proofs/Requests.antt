-- Reading a frame gives the request that the frame is, or the first fault.
use Rattle.std.proofs.Common.{◌≡◌, ℕ, Bool, true, eqb, leb, ◌&&◌, List, length, Option, Some, None, Result, Ok, Err, refl, sym, ap, subst, ◌∙◌, inl, inr}
use Rattle.std.specs.Prelude.{MatchResult, IfOk, IfErr, IsSome, IsOkAnd}
use Rattle.std.specs.List.{AllByRecursion}
use Rattle.std.proofs.lemmas.Bool.{and_parts, and_from, leb-true, le-leb, eqb-true, eq-eqb}
use Rattle.byteorder.specs.Endian.{little_number}
use Rattle.wire.specs.declared.fault.WireFault.{WireFault}
use Rattle.wire.specs.declared.fault.WireFault.TheVariants.{Opcode, Body, NameLong, NameBad, Frame}
use Rattle.terms.specs.declared.settings.Names.{Names}
use Rattle.wire.specs.declared.request.Caller.{Caller}
use Rattle.wire.specs.declared.header.Header.{Header}
use Rattle.wire.specs.declared.request.Request.{Request}
use Rattle.wire.specs.Fields.{Field, Value}
use Rattle.wire.specs.Requests.{layout, values_of, IsName, names_in, header_in, opcode_in, unique_in, node_in, caller_in, body_in, IsFramed, IsLaidOut, IsRequest, IsSame}
use Rattle.wire.specs.Faults.{IsFirstNameFault, IsFirstFault}
use Rattle.wire.specs.Reading.{◌>>=◌, Gives, values_at, named, operation_by, operation_at, is_framed, caller_of, parts_at, request_at, told_request}
use Rattle.wire.proofs.Fields.{values_law, spelled_values}
use Rattle.wire.proofs.Names.{bind_both, named_law, name_faults, no_first_fault}

abbrev Found : Type 0
Found = ℕ × ℕ × Caller × (ℕ × List Value)

abbrev answer : Found → Result Found WireFault
answer x = Ok x

answer_is : (x y : Found) → answer x ≡ answer y → x ≡ y
answer_is x y e = cc

-- ---- bodies, before their names are tested

-- why a body does not have these fields
abbrev OperationFault : Option (List Field) → List ℕ → WireFault → Type 0
OperationFault o body Opcode = o ≡ None
OperationFault o body Body = IsSome o × ((values : List Value) → IsLaidOut o values body → ⊥)
OperationFault o body NameLong = ⊥
OperationFault o body NameBad = ⊥
OperationFault o body Frame = ⊥

abbrev OperationLaw : Option (List Field) → ℕ → List ℕ → Result (ℕ × List Value) WireFault → Type 0
OperationLaw o opcode body r = MatchResult r (λ x. (x.0 ≡ opcode) × IsLaidOut o x.1 body) (λ d. OperationFault o body d)

operation_law : (o : Option (List Field)) (opcode : ℕ) (body : List ℕ) → OperationLaw o opcode body (operation_by o opcode body)
operation_law None opcode body = refl
operation_law (Some fields) opcode body =
    elim (values_at fields body) as (λ r. MatchResult r (λ values. IsLaidOut (Some fields) values body) (λ d. (d ≡ Body) × ((values : List Value) → IsLaidOut (Some fields) values body → ⊥))
    → OperationLaw (Some fields) opcode body (r >>= λ values. Ok (opcode, values))) [
      | Ok values ↦ λ s. (refl, s)
      | Err d ↦ λ h. subst (OperationFault (Some fields) body) (sym h.0) (refl, h.1)
    ] (values_law fields body)

operation_again : (o : Option (List Field)) (opcode : ℕ) (body : List ℕ) (values : List Value) → IsLaidOut o values body → operation_by o opcode body ≡ Ok (opcode, values)
operation_again None opcode body values s = absurd s
operation_again (Some fields) opcode body values s = rw (spelled_values fields values body s) refl

-- lawful names pass their tests
named_again : (names : Names) (values : List Value) (x : Found) → AllByRecursion (IsName names) (names_in values) → (named names values >>= λ _. answer x) ≡ Ok x
named_again names values x all =
    elim (named names values) as (λ n. MatchResult n (λ _. AllByRecursion (IsName names) (names_in values)) (λ d. IsFirstNameFault names (names_in values) d)
    → (n >>= λ _. answer x) ≡ Ok x) [
      | Ok b ↦ λ _. refl
      | Err d ↦ λ first. absurd (no_first_fault names (names_in values) d all first)
    ] (named_law names values)

-- ---- frames

framed_from : (frame : List ℕ) → is_framed frame ≡ true → IsFramed frame
framed_from frame e =
    let a = and_parts (leb 40 (length frame) && leb (length frame) 69632) (eqb (little_number 4 frame) (length frame)) e in
    let b = and_parts (leb 40 (length frame)) (leb (length frame) 69632) a.0 in
    record { long = leb-true _ _ b.0; short = leb-true _ _ b.1; len = eqb-true _ _ a.1 }

framed_test : (frame : List ℕ) → IsFramed frame → is_framed frame ≡ true
framed_test frame h = and_from _ _ (and_from _ _ (le-leb _ _ h.long) (le-leb _ _ h.short)) (eq-eqb _ _ h.len)

-- the header and the body of a whole frame
pub parts_read : (frame : List ℕ) (header : Header) (body : List ℕ) → header ≡ header_in frame → body ≡ body_in frame → IsFramed frame → parts_at frame ≡ Ok (header, body)
parts_read frame header body h b framed = rw (h, b, framed_test frame framed) refl

-- what reading a frame returned
record Tells (names : Names) (frame : List ℕ) (x : Found) : Type 0 where
  framed : IsFramed frame
  unique : x.0 ≡ unique_in frame
  node : x.1 ≡ node_in frame
  caller : x.2 ≡ caller_in frame
  opcode : x.3.0 ≡ opcode_in frame
  body : IsLaidOut (layout (opcode_in frame)) x.3.1 (body_in frame)
  lawful : AllByRecursion (IsName names) (names_in x.3.1)

body_fault : (names : Names) (frame : List ℕ) (d : WireFault) → IsFramed frame → OperationFault (layout (opcode_in frame)) (body_in frame) d → IsFirstFault names frame d
body_fault names frame Opcode h f = (h, f)
body_fault names frame Body h f = record { framed = h; known = f.0; no_body = f.1 }
body_fault names frame NameLong h f = absurd f
body_fault names frame NameBad h f = absurd f
body_fault names frame Frame h f = absurd f

name_fault : (names : Names) (frame : List ℕ) (values : List Value) (d : WireFault) → IsFramed frame → IsLaidOut (layout (opcode_in frame)) values (body_in frame)
    → IsFirstNameFault names (names_in values) d → IsFirstFault names frame d
name_fault names frame values NameLong h s f = record { framed = h; values = values; body = s; first = f }
name_fault names frame values NameBad h s f = record { framed = h; values = values; body = s; first = f }
name_fault names frame values Opcode h s f = elim (name_faults names (names_in values) Opcode f) [ inl e ↦ absurd cc | inr e ↦ absurd cc ]
name_fault names frame values Body h s f = elim (name_faults names (names_in values) Body f) [ inl e ↦ absurd cc | inr e ↦ absurd cc ]
name_fault names frame values Frame h s f = elim (name_faults names (names_in values) Frame f) [ inl e ↦ absurd cc | inr e ↦ absurd cc ]

-- what comes of the header and the body of a framed frame
abbrev Reads : Names → List ℕ → Result Found WireFault → Type 0
Reads names frame r = MatchResult r (Tells names frame) (IsFirstFault names frame)

named_fields : (names : Names) (frame : List ℕ) (x : ℕ × List Value) → IsFramed frame → x.0 ≡ opcode_in frame → IsLaidOut (layout (opcode_in frame)) x.1 (body_in frame)
    → Reads names frame (named names x.1 >>= λ _. answer (unique_in frame, node_in frame, caller_in frame, x))
named_fields names frame x framed opcode body =
    elim (named names x.1) as (λ n. MatchResult n (λ _. AllByRecursion (IsName names) (names_in x.1)) (λ d. IsFirstNameFault names (names_in x.1) d)
    → Reads names frame (n >>= λ _. answer (unique_in frame, node_in frame, caller_in frame, x))) [
      | Ok b ↦ λ all. record { framed = framed; unique = refl; node = refl; caller = refl; opcode = opcode; body = body; lawful = all }
      | Err d ↦ λ first. name_fault names frame x.1 d framed body first
    ] (named_law names x.1)

request_law : (names : Names) (frame : List ℕ) → Reads names frame (request_at names frame)
unfolding request_at operation_at
request_law names frame =
    let then = λ (p : Header × List ℕ).
    operation_by (layout p.0.opcode) p.0.opcode p.1 >>= λ (x : ℕ × List Value). named names x.1 >>= λ (_ : Bool). answer (p.0.unique, p.0.node, caller_of p.0, x) in
    bind_both (is_framed frame) (header_in frame, body_in frame) Frame then (Reads names frame)
    (λ e. let framed = framed_from frame e in
    elim (operation_by (layout (opcode_in frame)) (opcode_in frame) (body_in frame)) as (λ r. OperationLaw (layout (opcode_in frame)) (opcode_in frame) (body_in frame) r
    → Reads names frame (r >>= λ (x : ℕ × List Value). named names x.1 >>= λ (_ : Bool). answer (unique_in frame, node_in frame, caller_in frame, x))) [
      | Ok x ↦ λ law. named_fields names frame x framed law.0 law.1
      | Err d ↦ λ law. body_fault names frame d framed law
    ] (operation_law (layout (opcode_in frame)) (opcode_in frame) (body_in frame)))
    (λ e h. let one = framed_test frame h in absurd cc)

pub is_found : (names : Names) (frame : List ℕ) (r : Result Request WireFault) → Gives told_request r (request_at names frame) → IfOk r (IsRequest names frame)
is_found names frame (Ok q) given =
    let t = subst (Reads names frame) given (request_law names frame) in
    record { framed = t.framed; opcode = t.opcode; unique = t.unique; node = t.node; caller = t.caller; body = t.body; lawful = t.lawful }
is_found names frame (Err d) given = tt

pub is_fault : (names : Names) (frame : List ℕ) (r : Result Request WireFault) → Gives told_request r (request_at names frame) → IfErr r (IsFirstFault names frame)
is_fault names frame (Ok q) given = tt
is_fault names frame (Err d) given = subst (Reads names frame) given (request_law names frame)

-- a frame that is a request is read as that request
pub request_again : (names : Names) (frame : List ℕ) (q : Request) → IsRequest names frame q → request_at names frame ≡ Ok (told_request q)
unfolding request_at operation_at
request_again names frame q h =
    let one = operation_again (layout (opcode_in frame)) (opcode_in frame) (body_in frame) (values_of q.operation) h.body in
    rw (framed_test frame h.framed, one, h.opcode, h.unique, h.node, h.caller) (named_again names (values_of q.operation) _ h.lawful)

pub is_only : (names : Names) (frame : List ℕ) (r : Result Request WireFault) → Gives told_request r (request_at names frame) → (q : Request) → IsRequest names frame q → IsOkAnd r (λ found. IsSame found q)
is_only names frame (Ok found) given q h =
    let e : answer (told_request q) ≡ answer (told_request found) = sym (request_again names frame q h) ∙ given in
    let same : told_request found ≡ told_request q = answer_is _ _ (sym e) in
    record { unique = ap (λ x. x.0) same; node = ap (λ x. x.1) same; caller = ap (λ x. x.2) same; opcode = ap (λ x. x.3.0) same; values = ap (λ x. x.3.1) same }
is_only names frame (Err d) given q h =
    let e : answer (told_request q) ≡ Err d = sym (request_again names frame q h) ∙ given in
    absurd cc
