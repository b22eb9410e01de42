use Rattle.wafreview_run.proofs.WholeText.{written_whole}
use Rattle.wafreview_run.proofs.laws.written_where_the_count_stayed.Goals as goal

pub returns : goal.returns
returns c = written_whole
