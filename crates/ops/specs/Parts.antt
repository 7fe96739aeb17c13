-- What a SETATTR sets, and the permission bits of a new file or folder.
use Rattle.std.specs.Prelude.{ℕ, ◌-◌, ◌^◌, ◌==◌, bit_and, if◌then◌else◌, Option, Some, None, option_map}
use Rattle.std.specs.Int.{bit_at}
use Rattle.backing.specs.declared.call.NewTime.{NewTime}
use Rattle.backing.specs.declared.call.NewTime.TheVariants.{Now, At}
use Rattle.payload.specs.declared.attributes.Time.{Time}
use Rattle.wire.specs.declared.request.NewAttributes.{NewAttributes}
use Rattle.ops.specs.declared.parts.NewParts.{NewParts}
use Rattle.terms.specs.declared.settings.AttributeSource.{AttributeSource}
use Rattle.terms.specs.declared.settings.AttributeSource.TheVariants.{Fixed, Host}

-- a value counts if its bit of `valid` is set
abbrev pub counted : {X : Type 0} → (valid bit : ℕ) → X → Option X
counted valid bit value = if bit_at valid bit == 1 then Some value else None

-- the current time if its bit is set, or else the given time if the bit for that is set
abbrev pub new_time : (valid bit now_bit : ℕ) → Time → Option NewTime
new_time valid bit now_bit t = if bit_at valid now_bit == 1 then Some Now else if bit_at valid bit == 1 then Some (At t) else None

-- the lowest twelve bits of a mode
abbrev pub permissions_of : ℕ → ℕ
permissions_of mode = bit_and mode (2 ^ 12 - 1)

-- by the bits of `valid`, as `fuse.h` numbers them
abbrev pub parts_of : (valid size : ℕ) → NewAttributes → NewParts
parts_of valid size new = record {
  permissions = option_map permissions_of (counted valid 0 new.mode);
  uid = counted valid 1 new.uid;
  gid = counted valid 2 new.gid;
  again = None;
  size = counted valid 3 size;
  accessed = new_time valid 4 7 new.accessed;
  modified = new_time valid 5 8 new.modified;
}

-- ---- the permission bits of a new file or folder: with attributes of the host, those of the request's mode without
-- its umask

abbrev pub unmasked : (mode umask : ℕ) → ℕ
unmasked mode umask = bit_and (permissions_of mode) (2 ^ 32 - 1 - umask)

abbrev pub made_with : AttributeSource → (mode umask : ℕ) → Option ℕ
made_with (Fixed uid gid) mode umask = None
made_with Host mode umask = Some (unmasked mode umask)
