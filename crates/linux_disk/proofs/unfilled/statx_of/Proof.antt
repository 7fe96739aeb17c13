-- `statx_of` copies its argument and reads the copy at the other type: a walk of its MIR by hand. Both types are the same to the machine, which
-- knows no names of types or fields (`mir.Raw`), and each field fits since the argument's does.
use Rattle.std.proofs.Common.{[], ◌∷◌, refl}
use Rattle.std.proofs.raw_atomic.Walks.{proved}
use base.Fraction.{full_share}
use base.Fml.{ftrue, fat}
use mir.Raw.{raw as raw_ty}
use contract.Running.{tables}
use types.Kit.{‵, raw, at_ret, ◌$◌, ◌∵◌, !, qed, done, drop, use1, join, suffices, group}
use types.Run.{enter, of_opd, addr, from, load, look_raw, stop, first, blocks, exec, returns}
use types.ByLocal.{alloc_all, pass_all, free_all, look_at, get, through, sets, sets_last, env, take_at, give_at}
use denote.Exit.{yes}
use denote.Laws.{Is}
use denote.Signature.{plain}
use denote.Steps.{nothing, owned}
use denote.Struct.Laws as LL
use denote.Triple.Entry.{on_entry}
use denote.Triple.Walked.{Stays, walk_of, stay_dropped, Goes-dropped, ends_at}
use Rattle.linux_disk.specs.declared.unfilled.BlankTime.{BlankTime}
use Rattle.linux_disk.specs.declared.unfilled.Blank.{Blank}
use Rattle.libc.specs.declared.types.statx.{statx}
use Rattle.libc.specs.declared.types.statx_timestamp.{statx_timestamp}
use Rattle.linux_disk.specs.contracts.unfilled.Blank as T
use Rattle.linux_disk.proofs.unfilled.Blank.TheLaws as T'
use Rattle.libc.specs.contracts.types.statx as S
use Rattle.libc.proofs.types.statx.TheLaws as S'
use Rattle.linux_disk.specs.contracts.unfilled.statx_of as f
use Rattle.linux_disk.proofs.unfilled.statx_of.Statement.{statement}
use Rattle.linux_disk.proofs.unfilled.statx_of.Code as code

abbrev stayed : Stays f.ended.signature.params f.ended.kept
stayed = (stay_dropped _ yes, tt)

-- the same numbers, under the library's names
abbrev time_of : BlankTime → statx_timestamp
time_of s = record { tv_sec = s.seconds; tv_nsec = s.nanos; __reserved = s.spare }

abbrev same : Blank → statx
same t = record {
  stx_mask = t.mask;
  stx_blksize = t.block_size;
  stx_attributes = t.attributes;
  stx_nlink = t.links;
  stx_uid = t.uid;
  stx_gid = t.gid;
  stx_mode = t.mode;
  __spare0 = t.gap;
  stx_ino = t.inode;
  stx_size = t.size;
  stx_blocks = t.blocks;
  stx_attributes_mask = t.attributes_mask;
  stx_atime = time_of t.accessed;
  stx_btime = time_of t.made;
  stx_ctime = time_of t.changed;
  stx_mtime = time_of t.modified;
  stx_rdev_major = t.special_major;
  stx_rdev_minor = t.special_minor;
  stx_dev_major = t.device_major;
  stx_dev_minor = t.device_minor;
  stx_mnt_id = t.mount;
  stx_dio_mem_align = t.memory_align;
  stx_dio_offset_align = t.offset_align;
  __spare3 = t.spare;
}

pub statx_of_spec : {M : Type 1} → statement M
statx_of_spec 𝓤 𝓛 𝓜 𝓡 wired =
    let c = f.clauses 𝓛 𝓜.mem 𝓡.returns in let W = walk_of 𝓛 f.ended stayed c in let 𝓣 = tables 𝓤 𝓛.H 𝓜 𝓡 𝓡.env in
    proved 𝓛 f.ended stayed c 𝓜 𝓡 (Goes-dropped 𝓛 0 (plain (λ _. T.the_row)) yes (λ κs x w. refl), tt)
    f.Key.name code.function (code.unfolded 𝓤 𝓛.H 𝓜 𝓡 wired)
    (λ κs. (LL.vals T.the_type T'.the_laws, tt)) (λ κs. (LL.tells T.the_type T'.the_laws, tt)) (λ κs qs bounds a _ are.
    let t : Blank = a.0 in let v = LL.val T.the_type T'.the_laws t in
    let y : W.Ghost = ((κs, qs, bounds, a, (v ∷ [], tt)), tt) in
    let given = ((LL.lawful T.the_type T'.the_laws 𝓛).typed t (v ∷ []) are.0).0 in
    let is : Is S.the_row (same t) (v ∷ []) = are.0 in
    let taken = ((LL.lawful S.the_type S'.the_laws 𝓛).typed (same t) (v ∷ []) is).0 in
    qed 𝓛 (raw (on_entry 𝓛 f.signature κs qs a y.0.4) ∷ ‵ ftrue ∷ []) ∵ drop ! $ drop ! $
    enter ! _ _ _ _ _ $ alloc_all ! (λ l. pass_all ! refl (given, tt) $
    sets ! (of_opd ! (get ! refl)) refl given $
    sets ! (addr ! (from ! (stop !))) refl (tt, tt) $
    -- [the copy, as the machine sees it]
    take_at ! 2 $ use1 𝓛 (‵ (fat full_share (raw_ty T'.mir) (l 2) 0 v)) (𝓛.laws.at_raw full_share _ (l 2) 0 v) $
    first ! $ blocks ! $
    sets_last ! (of_opd ! (load ! (through ! refl (stop !)) (look_raw ! 0 refl))) refl taken $
    exec ! 𝓣.C 𝓣.Λ (env code.Mir.locals l) code.Mir.t-4 (at_ret _ (W.post y)) $
    sets ! (of_opd ! (get ! refl)) refl taken $
    use1 𝓛 (‵ (fat full_share T'.mir (l 2) 0 v)) (𝓛.laws.raw_at full_share _ (l 2) 0 v) $ give_at ! 2 $
    returns ! (look_at ! 0 refl) $ free_all ! refl $
    suffices ! _ (ends_at 𝓛 f.ended stayed c y v (same t) (tt, tt) (tt, tt)) $
    nothing ! $ owned ! S.the_row _ (LL.makes S.the_type S'.the_plain 𝓛) (same t) _ is $
    nothing ! $ nothing ! $ join ! $ nothing ! $ group ! 3 $ done !))
