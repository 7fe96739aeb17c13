-- What a call answers that is done, whatever stands there.
use Rattle.std.specs.Prelude.{ℕ, ◌≡◌, ◌<◌, ◌≤◌, List, length}
use Rattle.backing.specs.declared.call.Answer.{Answer}
use Rattle.backing.specs.declared.call.Answer.TheVariants.{Done, Stat, Names as NamesAre, Bytes, Wrote}
use Rattle.backing.specs.declared.call.Child.{Child}
use Rattle.payload.specs.declared.attributes.Details.{Details}
use Rattle.payload.specs.declared.attributes.Kind.{Kind}
use Rattle.payload.specs.declared.attributes.Kind.TheVariants as kinds
use Rattle.backing.specs.Calls.{Asked, AskStat, AskList, AskMake, AskMakeDir, AskMakeLink, AskRemove, AskRemoveDir, AskRename, AskRenameNew, AskExchange, AskLink, AskRead, AskReadLink, AskWrite, AskSetLen, AskSync, AskSetPermissions, AskSetOwner, AskSetTimes}

-- the kind of answer, and how many bytes
abbrev pub Suits : Asked → Answer → Type 0
Suits (AskStat p) answer = (kind : Kind) × (size : ℕ) × (details : Details) × (answer ≡ Stat kind size details) × (kind ≡ kinds.Folder → size ≡ 0)
Suits (AskList p) answer = (children : List Child) × (answer ≡ NamesAre children)
Suits (AskMake p permissions) answer = answer ≡ Done
Suits (AskMakeDir p permissions) answer = answer ≡ Done
Suits (AskMakeLink p text) answer = answer ≡ Done
Suits (AskRemove p) answer = answer ≡ Done
Suits (AskRemoveDir p) answer = answer ≡ Done
Suits (AskRename s t) answer = answer ≡ Done
Suits (AskRenameNew s t) answer = answer ≡ Done
Suits (AskExchange s t) answer = ⊥
Suits (AskLink s t) answer = answer ≡ Done
Suits (AskRead p offset size) answer = (bytes : List ℕ) × (answer ≡ Bytes bytes) × (length bytes ≤ size)
Suits (AskReadLink p) answer = (text : List ℕ) × (answer ≡ Bytes text) × (length text < 4096)
Suits (AskWrite p offset piece) answer = answer ≡ Wrote (length piece)
Suits (AskSetLen p size) answer = answer ≡ Done
Suits (AskSync p) answer = answer ≡ Done
Suits (AskSetPermissions p permissions) answer = answer ≡ Done
Suits (AskSetOwner p uid gid) answer = answer ≡ Done
Suits (AskSetTimes p accessed modified) answer = answer ≡ Done
