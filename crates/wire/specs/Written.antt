-- The bytes that are written for a request and for a reply.
use Rattle.std.specs.Prelude.{ℕ, ◌+◌, ◌-◌, ◌/◌, ◌%◌, ◌^◌, List, [], ◌∷◌, ◌++◌, length, replicate, Option, Some, None, ℤ}
use Rattle.std.specs.List.{flat_map}
use Rattle.std.specs.Int.{cast_unsigned, w32}
use Rattle.byteorder.specs.Endian.{little_bytes}
use Rattle.wire.specs.declared.request.TheConstants.{HEADER_LEN}
use Rattle.wire.specs.declared.reply.TheConstants.{REPLY_HEADER_LEN}
use Rattle.wire.specs.declared.request.Request.{Request}
use Rattle.wire.specs.declared.request.Operation.{Operation}
use Rattle.wire.specs.declared.bodies.ReplyHeader.{ReplyHeader}
use Rattle.wire.specs.declared.reply.Reply.{Reply}
use Rattle.wire.specs.declared.reply.ReplyBody.{ReplyBody}
use Rattle.wire.specs.declared.reply.ReplyBody.TheVariants.{Failed}
use Rattle.wire.specs.Fields.{Field, number, unread, raw, text, link_text, counted, limited, anything, Value, num, name, bytes}
use Rattle.wire.specs.Requests.{layout, opcode_of, values_of}
use Rattle.wire.specs.Replies.{reply_layout, reply_values}

unfoldable pub zeros : ℕ → List ℕ
zeros n = replicate n 0

-- a number in that many bytes, little-endian
unfoldable pub le : ℕ → ℕ → List ℕ
le len n = little_bytes len n

-- numbers of two and of four bytes, one after another
unfoldable pub u16s : List ℕ → List ℕ
u16s ns = flat_map (little_bytes 2) ns

unfoldable pub u32s : List ℕ → List ℕ
u32s ns = flat_map (little_bytes 4) ns

-- words of bytes, one after another
abbrev pub joined : List (List ℕ) → List ℕ
joined words = flat_map (λ word. word) words

-- fields with these values; what is not read is written as zero
abbrev pub written : List Field → List Value → List ℕ
written [] values = []
written (number len ∷ fields) (num n ∷ values) = le len n ++ written fields values
written (unread len ∷ fields) values = zeros len ++ written fields values
written (raw len ∷ fields) (bytes d ∷ values) = d ++ written fields values
written (text ∷ fields) (name t ∷ values) = t ++ 0 ∷ written fields values
written (link_text ∷ fields) (bytes t ∷ values) = t ++ 0 ∷ written fields values
written (counted unit gap limit ∷ fields) (bytes d ∷ values) = le 4 (length d / unit) ++ zeros gap ++ d
written (limited limit ∷ fields) (num n ∷ values) = le 4 n ++ written fields values
written (anything ∷ fields) values = []
written _ _ = []

-- ---- requests

abbrev pub written_by : Option (List Field) → List Value → List ℕ
written_by None values = []
written_by (Some fields) values = written fields values

abbrev pub operation_bytes : Operation → List ℕ
operation_bytes o = written_by (layout (opcode_of o)) (values_of o)

-- the length, the opcode, unique, the node number, the user and the group of the caller, eight zero bytes (pid and padding), and
-- the body
unfoldable pub request_bytes : Request → List ℕ
request_bytes r =
    le 4 (HEADER_LEN + length (operation_bytes r.operation)) ++ le 4 (opcode_of r.operation) ++ le 8 r.unique ++ le 8 r.node ++ le 4 r.caller.uid
    ++ le 4 r.caller.gid ++ zeros 8 ++ operation_bytes r.operation

-- ---- replies

abbrev pub header_bytes : ReplyHeader → List ℕ
header_bytes header = header.length ++ header.unique

-- two's complement of the negated error number, in four bytes
abbrev pub negated : ℤ → ℕ
negated errno = (2 ^ 32 - cast_unsigned w32 errno) % 2 ^ 32

abbrev pub error_word : ReplyBody → ℕ
error_word (Failed errno) = negated errno
error_word _ = 0

unfoldable pub body_bytes : ReplyBody → List ℕ
body_bytes body = written (reply_layout body) (reply_values body)

-- the length, the error, the number of the request, and the body
unfoldable pub reply_bytes : Reply → List ℕ
reply_bytes r = le 4 (REPLY_HEADER_LEN + length (body_bytes r.body)) ++ le 4 (error_word r.body) ++ le 8 r.unique ++ body_bytes r.body
