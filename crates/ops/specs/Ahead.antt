-- What a script in the code still has to do.
use Rattle.std.specs.Prelude.{ℕ, ℤ, ◌+◌, is_some, List, [], ◌∷◌, length, map, true, false, Option, Some, None, option_map}
use Rattle.paths.specs.Prefixes.{Names}
use Rattle.backing.specs.Calls.{asked}
use Rattle.backing.specs.declared.call.Call.{Call}
use Rattle.errno.specs.declared.TheConstants.{EEXIST}
use Rattle.table_steps.specs.declared.data.Outcome.{Outcome}
use Rattle.table_steps.specs.declared.data.Outcome.TheVariants.{Failed, Done, Entry, Entries, Hidden, HiddenMove}
use Rattle.ops.specs.declared.findings.FoundFile.{FoundFile}
use Rattle.ops.specs.declared.findings.ScriptResult.{ScriptResult}
use Rattle.ops.specs.declared.findings.ScriptResult.TheVariants.{Error, Nothing, NewEntry, NewFile, Attributes, Opening, Bytes, Written, Listed, Looked, Hid, Replaced, Unmoved, Kept}
use Rattle.ops.specs.declared.hiding.Hiding.{Hiding}
use Rattle.ops.specs.declared.making.Making.{Making}
use Rattle.ops.specs.declared.parts.NewParts.{NewParts}
use Rattle.terms.specs.declared.settings.AttributeSource.TheVariants.{Host}
use Rattle.ops.specs.declared.setting.Setting.{Setting}
use Rattle.ops.specs.declared.script.LastCall.{LastCall}
use Rattle.ops.specs.declared.script.LastCall.TheVariants as ending
use Rattle.ops.specs.declared.script.Script.{Script}
use Rattle.ops.specs.declared.telling.ReplyKind.{ReplyKind}
use Rattle.ops.specs.declared.telling.ReplyKind.TheVariants as telling
use Rattle.wire.specs.declared.request.Operation.{Operation}
use Rattle.wire.specs.declared.request.Operation.TheVariants as ops
use Rattle.ops.specs.Looking.{plan_looking}
use Rattle.ops.specs.Scripts.{Plan, Over, End, failed, give_made, hide, list, listed_end, make, move_after, look, open_end, over, read, read_link, remove_closed, replace, set_parts, shown_at, write}

abbrev pub outcome_of : ScriptResult → Outcome
outcome_of (Error errno) = Failed
outcome_of Nothing = Done
outcome_of (NewEntry found) = Entry
outcome_of (NewFile found) = Entry
outcome_of (Attributes found) = Done
outcome_of Opening = Done
outcome_of (Bytes bytes) = Done
outcome_of (Written count) = Done
outcome_of (Listed children) = Done
outcome_of (Looked founds) = Entries (map (λ found. is_some found) founds)
outcome_of (Hid candidate) = Hidden candidate
outcome_of (Replaced candidate) = HiddenMove candidate true
outcome_of (Unmoved candidate errno) = HiddenMove candidate false
outcome_of Kept = Failed

-- names that are not lawful are an error
abbrev pub end_of : ScriptResult → End
end_of (Listed children) = listed_end children
end_of finding = record { outcome = outcome_of finding; findings = finding }

-- the request is not about a page
abbrev pub IsOfNoPage : ScriptResult → Type 0
IsOfNoPage (Looked founds) = ⊥
IsOfNoPage finding = Unit {0}

-- its script allocates
abbrev pub LooksAtEach : Operation → Type 0
LooksAtEach (ops.ReadDirPlus fh offset size) = Unit {0}
LooksAtEach operation = ⊥

-- what is reported about what was found at a path
abbrev pub told_of : ReplyKind → Names → FoundFile → End
told_of telling.Nothing p found = end_of Nothing
told_of telling.Taken p found = end_of (Error EEXIST)
told_of telling.Entry p found = end_of (NewEntry found)
told_of telling.NewFile p found = end_of (NewFile found)
told_of telling.Attributes p found = end_of (Attributes (shown_at p found))
told_of telling.Opening p found = open_end found.kind

-- what comes after a file was hidden: nothing more, or a move to its place
abbrev pub after_hide : Names → (source : Option Names) → ℕ → Plan
after_hide p None i = over (Hidden i) (Hid i)
after_hide p (Some s) i = move_after s p i

abbrev pub plan_hiding : Hiding → Plan
plan_hiding h = hide h.path.now h.left.now (after_hide h.path.now (option_map (λ s. s.now) h.source))

abbrev pub plan_setting : Setting → Plan
plan_setting s = set_parts s.path.now s.parts (look s.path.now (λ found. Over (told_of s.tells s.path.now found)))

abbrev pub plan_making : Making → Plan
plan_making m = give_made Host m.caller m.permissions m.path.now (λ found. told_of m.tells m.path.now found)

abbrev pub plan_ending : LastCall → Plan
plan_ending (ending.Look p tells) = look p.now (λ found. Over (told_of tells p.now found))
plan_ending (ending.List p) = list p.now
plan_ending (ending.Read p offset size) = read p.now offset size
plan_ending (ending.ReadLink p) = read_link p.now
plan_ending (ending.Write p offset piece) = write p.now offset piece.now
plan_ending (ending.Each looks) = plan_looking looks
plan_ending (ending.Replace s t left) = replace s.now t.now left.now
plan_ending (ending.Hide hiding) = plan_hiding hiding
plan_ending (ending.Set setting) = plan_setting setting
plan_ending (ending.Made making) = plan_making making
plan_ending (ending.MoveAfter s t candidate) = move_after s.now t.now candidate
plan_ending (ending.Remove p) = remove_closed p.now
plan_ending (ending.Over finding) = Over (end_of finding)

abbrev pub plan_from : Option Call → Plan → Plan
plan_from None rest = rest
plan_from (Some call) rest = make (asked call) rest

-- a script that ended with an error, or goes on
abbrev pub unless : Option ℤ → Plan → Plan
unless None rest = rest
unless (Some errno) rest = failed errno

abbrev pub plan_ahead : Script → Plan
plan_ahead script = plan_from script.change (plan_ending script.ending)

-- how many calls it makes at most

-- one if a move comes after the hide
abbrev pub calls_after : Option Names → ℕ
calls_after None = 0
calls_after (Some s) = 1

-- a Stat of each candidate, a move, and that many after it
abbrev pub calls_hiding : List Names → (after : ℕ) → ℕ
calls_hiding [] after = 0
calls_hiding (c ∷ cs) after = length cs + 2 + after

abbrev pub calls_in : Hiding → ℕ
calls_in h = calls_hiding h.left.now (calls_after (option_map (λ s. s.now) h.source))

-- one for a part that is set, and only one for two that are set together
abbrev pub calls_part : {X : Type 0} → Option X → ℕ
calls_part None = 0
calls_part (Some x) = 1

abbrev pub calls_pair : {X Y : Type 0} → Option X → Option Y → ℕ
calls_pair None None = 0
calls_pair (Some x) y = 1
calls_pair None (Some y) = 1

-- and a Stat at the end
abbrev pub calls_set : NewParts → ℕ
calls_set parts = calls_part parts.permissions + calls_pair parts.uid parts.gid + calls_part parts.again + calls_part parts.size + calls_pair parts.accessed parts.modified + 1

abbrev pub calls_ending : LastCall → ℕ
calls_ending (ending.Look p tells) = 1
calls_ending (ending.List p) = 1
calls_ending (ending.Read p offset size) = 1
calls_ending (ending.ReadLink p) = 1
calls_ending (ending.Write p offset piece) = 1
calls_ending (ending.Each looks) = length looks.left
calls_ending (ending.Replace s t left) = calls_hiding left.now 1 + 1
calls_ending (ending.Hide hiding) = calls_in hiding
calls_ending (ending.Set setting) = calls_set setting.parts
calls_ending (ending.Made making) = 4
calls_ending (ending.MoveAfter s t candidate) = 1
calls_ending (ending.Remove p) = 1
calls_ending (ending.Over finding) = 0

abbrev pub calls_from : Option Call → ℕ
calls_from None = 0
calls_from (Some call) = 1

abbrev pub calls_left : Script → ℕ
calls_left script = calls_from script.change + calls_ending script.ending
