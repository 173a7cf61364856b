use Rattle.std.proofs.Common.{◌++◌, sym, ap, ◌∙◌}
use Rattle.std.proofs.lemmas.Str.{chars-nil, IsUtf8-encode, IsUtf8-string_bytes}
use Rattle.std.specs.Str.{chars}
use Rattle.line_editor.specs.Cases.{cased}
use Rattle.line_editor.proofs.Casing.{cased-pushed}
use Rattle.line_editor.proofs.cases.cased.Goals as goal

pub loop-c-init : goal.loop-c-init
loop-c-init g c = record {
  utf8 = c.utf8.text;
  same = sym (ap (λ t. chars t ++ cased c.args.case (chars c.args.text.now)) c.new-new.ensures.bytes ∙ ap (λ t. t ++ cased c.args.case (chars c.args.text.now)) chars-nil);
}

pub loop-c-preserved : goal.loop-c-preserved
loop-c-preserved g c = record {
  utf8 = search;
  same = cased-pushed _ _ _ _ _ _ _ c.in-Some.c _ c.loop-c.invariant.same c.in-Some.ensures.0 c.in_case.ensures c.case_behind-case.ensures c.in_ok-push.ensures.bytes (IsUtf8-string_bytes c.loop-c.new) (search (IsUtf8-encode));
}
