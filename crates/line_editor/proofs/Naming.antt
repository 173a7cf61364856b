-- The name of an action reads as this action.
use Rattle.std.proofs.Common.{◌≡◌, ◌∙◌, ℕ, ◌==◌, true, List, [], ◌∷◌, length, refl, sym, ap, inl, inr, arith, append-nil}
use Rattle.std.proofs.lemmas.Bool.{and_from, cases_Bool, eqb-true, lt-ltb}
use Rattle.std.proofs.lemmas.Str.{chars-encodes}
use Rattle.std.specs.Prelude.{Bool, Option, Some, None, codes, if◌then◌else◌, nat_lt}
use Rattle.std.specs.Char.{IsScalar, encode_utf8}
use Rattle.std.specs.Cmp.Lexicographic.{same_text}
use Rattle.std.specs.List.{AllByRecursion}
use Rattle.std.specs.Option.{option_map, option_or}
use Rattle.std.specs.Str.{chars, IsUtf8}
use Rattle.crossterm_flags.specs.Values.{same}
use Rattle.crossterm_flags.specs.Variants.{value_in}
use Rattle.unicode_segmentation.proofs.TextLemmas.{chars-encode_utf8}
use Rattle.line_editor.specs.declared.actions.Action.{Action}
use Rattle.line_editor.specs.declared.actions.Action.TheVariants.{Insert, Go, Erase, Kill, Yank, YankPop, Transpose, Undo, Redo, Older, Newer, RowUp, RowDown, Search, SearchForward, CaseWord, TransposeWords, EraseBlanks, LastWord}
use Rattle.line_editor.specs.declared.actions.Case.TheVariants.{Upper, Lower, Title}
use Rattle.line_editor.specs.declared.places.Stop.TheVariants.{Cluster, WordStart, WordEnd, Blank, Edge}
use Rattle.line_editor.specs.declared.places.Target.{Target}
use Rattle.line_editor.specs.declared.places.Target.TheVariants.{Back, Forward}
use Rattle.line_editor.specs.Names.{NameReadsBack, action_name, action_rows, key_char_name, char_named, one_char, target_name, target_rows, verb_named}

-- ---- a target

target_back : (target : Target) → value_in target_rows (target_name target) ≡ Some target
target_back (Back Cluster) = refl
target_back (Back WordStart) = refl
target_back (Back WordEnd) = refl
target_back (Back Blank) = refl
target_back (Back Edge) = refl
target_back (Forward Cluster) = refl
target_back (Forward WordStart) = refl
target_back (Forward WordEnd) = refl
target_back (Forward Blank) = refl
target_back (Forward Edge) = refl

-- No row has the name of an erasure.
no_row : (target : Target) → value_in action_rows (action_name (Erase target)) ≡ None
no_row (Back Cluster) = refl
no_row (Back WordStart) = refl
no_row (Back WordEnd) = refl
no_row (Back Blank) = refl
no_row (Back Edge) = refl
no_row (Forward Cluster) = refl
no_row (Forward WordStart) = refl
no_row (Forward WordEnd) = refl
no_row (Forward Blank) = refl
no_row (Forward Edge) = refl

-- A name with a hyphen is read by its verb, if it has no row.
abbrev read_at : Bool → List ℕ → List ℕ → Option Action
read_at found verb rest = if found then verb_named verb rest else None

-- ---- a character

is_text : (c : ℕ) → IsScalar c → IsUtf8 (encode_utf8 c)
is_text c h = (c ∷ [], (and_from _ _ h refl, append-nil (encode_utf8 c)))

space-chars : chars (codes "space") ≡ codes "space"
unfolding encode_utf8
space-chars = chars-encodes (codes "space") refl

newline-chars : chars (codes "newline") ≡ codes "newline"
unfolding encode_utf8
newline-chars = chars-encodes (codes "newline") refl

-- The character of a text by its name, if the text has more than one.
abbrev named_else : List ℕ → Option ℕ
named_else text = if same (codes "space") text then Some 32 else (if same (codes "newline") text then Some 10 else None)

char_back : (c : ℕ) → IsScalar c → char_named (key_char_name c) ≡ Some c
char_back c h =
    elim (cases_Bool (c == 32)) [
      | inl here ↦ rw here (ap (λ t. option_or (one_char t) (Some 32)) space-chars ∙ ap Some (sym (eqb-true c 32 here)))
      | inr not_here ↦ elim (cases_Bool (c == 10)) [
        | inl feed ↦ rw (not_here, feed) (ap (λ t. option_or (one_char t) (Some 10)) newline-chars ∙ ap Some (sym (eqb-true c 10 feed)))
        | inr other ↦ rw (not_here, other) (ap (λ t. option_or (one_char t) (named_else (encode_utf8 c))) (chars-encode_utf8 c (is_text c h)))
      ]
    ]

pub reads_back : (action : Action) → NameReadsBack action
reads_back (Insert c) h =
    let name = action_name (Insert c) in
    let found : nat_lt 6 (length name) ≡ true = lt-ltb 6 (length name) (omega arith) in
    ap (λ b. read_at b (codes "insert") (key_char_name c)) found ∙ ap (option_map Insert) (char_back c h)
reads_back (Go target) h =
    let name = action_name (Go target) in
    let found : nat_lt 2 (length name) ≡ true = lt-ltb 2 (length name) (omega arith) in
    ap (λ b. read_at b (codes "go") (target_name target)) found ∙ ap (option_map Go) (target_back target)
reads_back (Erase target) h =
    let name = action_name (Erase target) in
    let found : nat_lt 5 (length name) ≡ true = lt-ltb 5 (length name) (omega arith) in
    ap (λ o. option_or o (read_at (nat_lt 5 (length name)) (codes "erase") (target_name target))) (no_row target)
    ∙ ap (λ b. read_at b (codes "erase") (target_name target)) found ∙ ap (option_map Erase) (target_back target)
reads_back (Kill target) h =
    let name = action_name (Kill target) in
    let found : nat_lt 4 (length name) ≡ true = lt-ltb 4 (length name) (omega arith) in
    ap (λ b. read_at b (codes "kill") (target_name target)) found ∙ ap (option_map Kill) (target_back target)
reads_back Yank h = refl
reads_back YankPop h = refl
reads_back Transpose h = refl
reads_back Undo h = refl
reads_back Redo h = refl
reads_back Older h = refl
reads_back Newer h = refl
reads_back RowUp h = refl
reads_back RowDown h = refl
reads_back Search h = refl
reads_back SearchForward h = refl
reads_back (CaseWord Upper) h = refl
reads_back (CaseWord Lower) h = refl
reads_back (CaseWord Title) h = refl
reads_back TransposeWords h = refl
reads_back EraseBlanks h = refl
reads_back LastWord h = refl

-- ---- a text that is no name

pub none_named : {X : Type 0} (rows : List (List ℕ × X)) (text : List ℕ) → AllByRecursion (λ row. text ≡ row.0 → ⊥) rows → value_in rows text ≡ None
none_named [] text h = refl
none_named (row ∷ rows) text h =
    elim (cases_Bool (same row.0 text)) [
      | inl here ↦ absurd (h.0 (sym (same_text row.0 text (sym here))))
      | inr not_here ↦ rw not_here (none_named rows text h.1)
    ]
