-- The fields of a frame's body, one after another. A field is defined by how its bytes are read.
use Rattle.std.specs.Prelude.{◌≡◌, ◌≢◌, ℕ, ◌+◌, ◌*◌, ◌^◌, ◌<◌, ◌≤◌, List, [], ◌∷◌, ◌++◌, length, take, drop, All, slice_index}
use Rattle.byteorder.specs.Endian.{little_number}

-- one field of a body
pub data Field : Type 0 where
  -- a number of that many bytes, little-endian
  number : ℕ → Field
  -- that many bytes that are not read
  unread : ℕ → Field
  -- that many bytes
  raw : ℕ → Field
  -- a name: bytes without a zero byte, and a zero byte
  text : Field
  -- the text of a link, which is no name: bytes without a zero byte, and a zero byte
  link_text : Field
  -- a four-byte number that is at most limit, gap bytes that are not read, and then, up to the end, unit times as many
  -- bytes as the number says
  counted : (unit gap limit : ℕ) → Field
  -- a four-byte number that is at most limit
  limited : ℕ → Field
  -- any bytes up to the end
  anything : Field

-- the value of a field
pub data Value : Type 0 where
  num : ℕ → Value
  name : List ℕ → Value
  bytes : List ℕ → Value

-- The body consists of these fields and nothing more, and has these values.
abbrev pub Spells : List Field → List Value → List ℕ → Type 0
Spells [] [] body = body ≡ []
Spells (number len ∷ fields) (num n ∷ values) body = (len ≤ length body) × (n ≡ little_number len body) × Spells fields values (drop len body)
Spells (unread len ∷ fields) values body = (len ≤ length body) × Spells fields values (drop len body)
Spells (raw len ∷ fields) (bytes d ∷ values) body = (len ≤ length body) × (d ≡ take len body) × Spells fields values (drop len body)
Spells (text ∷ fields) (name t ∷ values) body = All (λ b. b ≢ 0) t × (rest : List ℕ) × (body ≡ t ++ 0 ∷ rest) × Spells fields values rest
Spells (link_text ∷ fields) (bytes t ∷ values) body = All (λ b. b ≢ 0) t × (rest : List ℕ) × (body ≡ t ++ 0 ∷ rest) × Spells fields values rest
Spells (counted unit gap limit ∷ []) (bytes d ∷ []) body =
    (4 + gap ≤ length body) × (little_number 4 body ≤ limit) × (d ≡ drop (4 + gap) body) × (length d ≡ unit * little_number 4 body)
Spells (limited limit ∷ fields) (num n ∷ values) body = (4 ≤ length body) × (n ≡ little_number 4 body) × (n ≤ limit) × Spells fields values (drop 4 body)
Spells (anything ∷ []) [] body = Unit {0}
Spells _ _ _ = ⊥

-- Such fields can hold these values.
abbrev pub CanTell : List Field → List Value → Type 0
CanTell [] [] = Unit {0}
CanTell (number len ∷ fields) (num n ∷ values) = (n < 256 ^ len) × CanTell fields values
CanTell (unread _ ∷ fields) values = CanTell fields values
CanTell (raw len ∷ fields) (bytes d ∷ values) = (length d ≡ len) × CanTell fields values
CanTell (text ∷ fields) (name t ∷ values) = All (λ b. b ≢ 0) t × CanTell fields values
CanTell (link_text ∷ fields) (bytes t ∷ values) = All (λ b. b ≢ 0) t × CanTell fields values
CanTell (counted unit _ limit ∷ []) (bytes d ∷ []) = (count : ℕ) × (count < 256 ^ 4) × (count ≤ limit) × (length d ≡ unit * count)
CanTell (limited limit ∷ fields) (num n ∷ values) = (n < 256 ^ 4) × (n ≤ limit) × CanTell fields values
CanTell (anything ∷ []) [] = Unit {0}
CanTell _ _ = ⊥

abbrev pub u16 : Field
u16 = number 2

abbrev pub u32 : Field
u32 = number 4

abbrev pub u64 : Field
u64 = number 8

-- every element is a byte
abbrev pub IsBytes : List ℕ → Type 0
IsBytes body = (i : ℕ) → slice_index body i < 256
