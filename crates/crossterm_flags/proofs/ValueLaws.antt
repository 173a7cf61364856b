-- Values that are written are read back.
use Rattle.std.proofs.Common.{◌≡◌, Option, Some, ap, ◌∙◌}
use Rattle.std.specs.Prelude.{IfOk}
use Rattle.std.specs.declared.result.Result.{Result}
use Rattle.std.specs.declared.result.Result.TheVariants.{Ok, Err}
use Rattle.serde_json.specs.Data.{Data}
use Rattle.serde_json.specs.View.{view}
use Rattle.serde_json.specs.declared.value.Value.{Value}
use Rattle.crossterm_flags.specs.Values.{WritesJson}
use Rattle.crossterm_flags.specs.declared.value.ValueFault.{ValueFault}

-- If a value reads back, so does the result that wrote it.
pub json_back : {X : Type 0} (reads : Data → Option X) (d : Data) (x : X) (result : Result Value ValueFault) → WritesJson d result → reads d ≡ Some x → IfOk result (λ v. reads (view v) ≡ Some x)
json_back reads d x (Ok v) made h = ap reads made ∙ h
json_back reads d x (Err fault) made h = tt
