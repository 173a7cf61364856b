use Rattle.line_editor.proofs.Seeing.{keeps_clusters}
use Rattle.line_editor.proofs.laws.keeps_clusters.Goals as goal

pub returns : goal.returns
returns c = keeps_clusters
