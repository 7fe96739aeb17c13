-- Why a frame is not a request: the first test that fails.
use Rattle.std.specs.Prelude.{◌≡◌, ℕ, ◌<◌, ◌≤◌, ◌⊎◌, List, [], ◌∷◌, length, None, IsSome, ℤ}
use Rattle.errno.specs.declared.TheConstants.{EINVAL, ENAMETOOLONG, ENOSYS}
use Rattle.terms.specs.declared.settings.Names.{Names}
use Rattle.wire.specs.declared.fault.WireFault.{WireFault}
use Rattle.wire.specs.declared.fault.WireFault.TheVariants.{Opcode, Body, NameLong, NameBad, Frame}
use Rattle.wire.specs.Fields.{Value}
use Rattle.wire.specs.Requests.{layout, IsName, IsFramed, IsLaidOut, names_in, opcode_in, body_in}

-- why a text is not a name
abbrev pub IsNameFault : Names → List ℕ → WireFault → Type 0
IsNameFault names t NameLong = 255 < length t
IsNameFault names t NameBad = (length t ≤ 255) × ¬ (IsName names t)
IsNameFault names t Opcode = ⊥
IsNameFault names t Body = ⊥
IsNameFault names t Frame = ⊥

-- the first text that is not a name
abbrev pub IsFirstNameFault : Names → List (List ℕ) → WireFault → Type 0
IsFirstNameFault names [] fault = ⊥
IsFirstNameFault names (t ∷ ts) fault = IsNameFault names t fault ⊎ (IsName names t × IsFirstNameFault names ts fault)

-- a frame of a known opcode whose body has its layout, but with a text that is not a name
pub record HasNameFault (names : Names) (frame : List ℕ) (fault : WireFault) : Type 0 where
  pub framed : IsFramed frame
  pub values : List Value
  pub body : IsLaidOut (layout (opcode_in frame)) values (body_in frame)
  pub first : IsFirstNameFault names (names_in values) fault

-- a frame of a known opcode whose body does not have its layout
pub record HasBodyFault (frame : List ℕ) : Type 0 where
  pub framed : IsFramed frame
  pub known : IsSome (layout (opcode_in frame))
  pub no_body : (values : List Value) → ¬ (IsLaidOut (layout (opcode_in frame)) values (body_in frame))

abbrev pub IsFirstFault : Names → List ℕ → WireFault → Type 0
IsFirstFault names frame Frame = ¬ (IsFramed frame)
IsFirstFault names frame Opcode = IsFramed frame × (layout (opcode_in frame) ≡ None)
IsFirstFault names frame Body = HasBodyFault frame
IsFirstFault names frame NameLong = HasNameFault names frame NameLong
IsFirstFault names frame NameBad = HasNameFault names frame NameBad

-- the error number of its answer: ENOSYS, ENAMETOOLONG, and EINVAL for the rest
abbrev pub fault_errno : WireFault → ℤ
fault_errno Opcode = ENOSYS
fault_errno NameLong = ENAMETOOLONG
fault_errno NameBad = EINVAL
fault_errno Body = EINVAL
fault_errno Frame = EINVAL
