use Rattle.std.proofs.Common.{◌∙◌, ap}
use Rattle.std.specs.List.{fold}
use Rattle.crossterm_types.specs.contracts.event.key.normal_key.NormalKeyHash.TheImpl as fields
use Rattle.crossterm_types.specs.declared.event.key.normal_key.NormalKey.{NormalKey}
use Rattle.crossterm_types.proofs.event.key.normal.KeyEventHash.hash.Goals as goal

pub returns : goal.returns
returns g c = c.hash.ensures ∙ ap (λ (key : NormalKey). fold g.H.Hasher.write c.args.state.now (fields.ghosts.hash_input key)) c.normal.ensures
