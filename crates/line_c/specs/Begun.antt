-- What the call answers that begins an editor.
use Rattle.std.specs.Prelude.{◌≡◌, ◌⊎◌, ℕ, false, Some}
use Rattle.line_editor.specs.declared.limits.Limits.{Limits}
use Rattle.line_c.specs.declared.answers.Answer.TheVariants.{GoesOn, NoMemory}
use Rattle.line_c.specs.declared.calls.LineLimits.{LineLimits}
use Rattle.line_c.specs.declared.keeping.LineSlot.{LineSlot}
use Rattle.line_c.specs.Answers.{IsFresh, answer_number}
use Rattle.line_c.specs.Kept.{LineState}

-- The editor's limits, by those of C. A line has no line feed.
abbrev pub limits_of : LineLimits → Limits
limits_of limits = record {
  bytes = limits.bytes;
  lines = limits.lines;
  steps = limits.steps;
  kills = limits.kills;
  ignore_dups = limits.ignore_dups;
  ignore_space = limits.ignore_space;
  multiline = false;
}

-- An editor lies behind the pointer, with these limits and nothing written. Or memory was refused, and the place is as it was.
abbrev pub OpensLine : LineLimits → ℕ → LineSlot → LineSlot → Type 0
OpensLine limits n old new =
    ((n ≡ answer_number GoesOn) × (k : LineState) × (new.value ≡ Some k) × IsFresh (limits_of limits) k)
    ⊎ ((n ≡ answer_number NoMemory) × (new ≡ old))
