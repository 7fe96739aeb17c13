-- Names in a folder.
use Rattle.std.specs.Prelude.{◌&&◌, ◌||◌, Bool, not, nat_eq, nat_le, codes, bytes_eq, length}
use Rattle.std.specs.List.{list_any}
use Rattle.std.specs.declared.cmp.Ordering.{Ordering}
use Rattle.std.specs.Ordering.{nat_cmp}
use Rattle.std.specs.Cmp.Lexicographic.{slice_cmp}
use Rattle.paths.specs.Prefixes.{Name}
use Rattle.backing.specs.declared.call.Child.{Child}

-- `.` and `..`
abbrev pub is_dot : Name → Bool
is_dot name = bytes_eq name (codes ".") || bytes_eq name (codes "..")

-- 1 to 255 bytes, neither `.` nor `..`, without a slash and without a zero byte
abbrev pub is_lawful : Name → Bool
is_lawful name = nat_le 1 (length name) && nat_le (length name) 255 && not (is_dot name) && not (list_any (λ b. nat_eq b 47) name) && not (list_any (λ b. nat_eq b 0) name)

-- ordered by the bytes of the names
abbrev pub by_name : Child → Child → Ordering
by_name a b = slice_cmp nat_cmp a.name b.name
