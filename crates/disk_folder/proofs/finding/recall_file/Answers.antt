use Rattle.path_cache.proofs.CallerLemmas.{has_value}
use Rattle.disk_folder.proofs.finding.recall_file.Goals as goal

pub value-opened-requires : goal.value-opened-requires
value-opened-requires g c = has_value c.recall.new.self.cache c.in-Some.place _ c.in-Some.ensures.found
