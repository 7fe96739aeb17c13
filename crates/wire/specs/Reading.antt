-- Reading from left to right, up to the first fault.
use Rattle.std.specs.Prelude.{◌≡◌, ℕ, ◌+◌, ◌*◌, List, [], ◌∷◌, length, take, drop, Option, Some, None, Result, Ok, Err, Bool, true, ◌&&◌, ◌||◌, nat_lt, nat_le, ◌==◌, if◌then◌else◌, codes}
use Rattle.std.specs.Str.{is_utf8, bytes_eq}
use Rattle.std.specs.List.{position, list_any}
use Rattle.byteorder.specs.Endian.{little_number}
use Rattle.terms.specs.declared.settings.Names.{Names}
use Rattle.terms.specs.declared.settings.Names.TheVariants as names_of
use Rattle.wire.specs.declared.fault.WireFault.{WireFault}
use Rattle.wire.specs.declared.fault.WireFault.TheVariants.{Opcode, Body, NameLong, NameBad, Frame}
use Rattle.wire.specs.declared.request.Caller.{Caller}
use Rattle.wire.specs.declared.header.Header.{Header}
use Rattle.wire.specs.declared.request.TheConstants.{HEADER_LEN, MAX_FRAME_LEN}
use Rattle.wire.specs.declared.request.Request.{Request}
use Rattle.wire.specs.declared.request.Operation.{Operation}
use Rattle.wire.specs.Fields.{Field, number, unread, raw, text, link_text, counted, limited, anything, Value, num, name, bytes}
use Rattle.wire.specs.Requests.{layout, opcode_of, values_of, header_in, body_in}

infixl 10 ◌>>=◌
abbrev pub ◌>>=◌ : {A B : Type 0} → Result A WireFault → (A → Result B WireFault) → Result B WireFault
(Ok x) >>= f = f x
(Err e) >>= f = Err e

-- the result of a function, seen through view, is what reading gives
abbrev pub Gives : {X Y : Type 0} → (X → Y) → Result X WireFault → Result Y WireFault → Type 0
Gives view (Ok x) read = read ≡ Ok (view x)
Gives view (Err e) read = read ≡ Err e

-- ---- one field: its value and the bytes after it

abbrev pub number_at : ℕ → List ℕ → Result (ℕ × List ℕ) WireFault
number_at len body = if nat_lt (length body) len then Err Body else Ok (little_number len body, drop len body)

abbrev pub unread_at : ℕ → List ℕ → Result (List ℕ) WireFault
unread_at len body = if nat_lt (length body) len then Err Body else Ok (drop len body)

abbrev pub raw_at : ℕ → List ℕ → Result (List ℕ × List ℕ) WireFault
raw_at len body = if nat_lt (length body) len then Err Body else Ok (take len body, drop len body)

-- the text before the zero byte, given the position of that byte
abbrev pub text_before : Option ℕ → List ℕ → Result (List ℕ × List ℕ) WireFault
text_before None body = Err Body
text_before (Some end) body = Ok (take end body, drop (end + 1) body)

abbrev pub text_at : List ℕ → Result (List ℕ × List ℕ) WireFault
text_at body = text_before (position (λ b. b == 0) body) body

abbrev pub counted_at : (unit gap limit : ℕ) → List ℕ → Result (List ℕ) WireFault
counted_at unit gap limit body =
    if nat_lt (length body) (4 + gap) then Err Body
    else (if nat_le (little_number 4 body) limit && length (drop (4 + gap) body) == unit * little_number 4 body then Ok (drop (4 + gap) body) else Err Body)

abbrev pub limited_at : ℕ → List ℕ → Result (ℕ × List ℕ) WireFault
limited_at limit body = number_at 4 body >>= λ x. (if nat_le x.0 limit then Ok x else Err Body)

-- the body ends here
abbrev pub ended : List ℕ → Result Bool WireFault
ended body = if length body == 0 then Ok true else Err Body

-- ---- the values of a body, before its names are tested

abbrev pub values_at : List Field → List ℕ → Result (List Value) WireFault
values_at [] body = ended body >>= λ _. Ok []
values_at (number len ∷ fields) body = number_at len body >>= λ x. values_at fields x.1 >>= λ values. Ok (num x.0 ∷ values)
values_at (unread len ∷ fields) body = unread_at len body >>= λ rest. values_at fields rest
values_at (raw len ∷ fields) body = raw_at len body >>= λ x. values_at fields x.1 >>= λ values. Ok (bytes x.0 ∷ values)
values_at (text ∷ fields) body = text_at body >>= λ x. values_at fields x.1 >>= λ values. Ok (name x.0 ∷ values)
values_at (link_text ∷ fields) body = text_at body >>= λ x. values_at fields x.1 >>= λ values. Ok (bytes x.0 ∷ values)
values_at (counted unit gap limit ∷ []) body = counted_at unit gap limit body >>= λ d. Ok (bytes d ∷ [])
values_at (counted unit gap limit ∷ _ ∷ _) body = Err Body
values_at (limited limit ∷ fields) body = limited_at limit body >>= λ x. values_at fields x.1 >>= λ values. Ok (num x.0 ∷ values)
values_at (anything ∷ []) body = Ok []
values_at (anything ∷ _ ∷ _) body = Err Body

-- ---- names

abbrev pub spelled_at : Names → List ℕ → Result (List ℕ) WireFault
spelled_at names_of.Text t = if is_utf8 t then Ok t else Err NameBad
spelled_at names_of.Bytes t = Ok t

abbrev pub name_at : Names → List ℕ → Result (List ℕ) WireFault
name_at names t =
    if length t == 0 then Err NameBad
    else (if nat_lt 255 (length t) then Err NameLong
    else spelled_at names t >>= λ u. (if bytes_eq u (codes ".") || bytes_eq u (codes "..") || list_any (λ b. b == 47) u then Err NameBad else Ok u))

-- each name in turn
abbrev pub named : Names → List Value → Result Bool WireFault
named names [] = Ok true
named names (name t ∷ values) = name_at names t >>= λ _. named names values
named names (num _ ∷ values) = named names values
named names (bytes _ ∷ values) = named names values

-- ---- operations and frames

abbrev pub operation_by : Option (List Field) → ℕ → List ℕ → Result (ℕ × List Value) WireFault
operation_by None opcode body = Err Opcode
operation_by (Some fields) opcode body = values_at fields body >>= λ values. Ok (opcode, values)

unfoldable pub operation_at : ℕ → List ℕ → Result (ℕ × List Value) WireFault
operation_at opcode body = operation_by (layout opcode) opcode body

-- an operation, without the places of its bytes
abbrev pub told : Operation → ℕ × List Value
told operation = (opcode_of operation, values_of operation)

-- the frame is as long as its header says, and neither too short nor too long
abbrev pub is_framed : List ℕ → Bool
is_framed frame = nat_le HEADER_LEN (length frame) && nat_le (length frame) MAX_FRAME_LEN && little_number 4 frame == length frame

-- the header and the body
abbrev pub parts_at : List ℕ → Result (Header × List ℕ) WireFault
parts_at frame = if is_framed frame then Ok (header_in frame, body_in frame) else Err Frame

abbrev pub caller_of : Header → Caller
caller_of header = record { uid = header.uid; gid = header.gid }

unfoldable pub request_at : Names → List ℕ → Result (ℕ × ℕ × Caller × (ℕ × List Value)) WireFault
request_at names frame =
    parts_at frame >>= λ parts. operation_at parts.0.opcode parts.1 >>= λ x. named names x.1 >>= λ _. Ok (parts.0.unique, parts.0.node, caller_of parts.0, x)

abbrev pub told_request : Request → ℕ × ℕ × Caller × (ℕ × List Value)
told_request r = (r.unique, r.node, r.caller, told r.operation)
