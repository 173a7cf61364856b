-- What was written reads as what was written.
use Rattle.std.proofs.Common.{◌≡◌, ◌≤◌, ◌<◌, ◌==◌, ◌+◌, ◌-◌, ◌*◌, ◌^◌, ◌/◌, ◌%◌, ℕ, zero, suc, Bool, true, false, List, [], ◌∷◌, ◌++◌, Some, None, arith, ap, refl, sym, subst, ◌∙◌, append-nil, append_assoc}
use mathlib.Core.Bool.{true≢false}
use Rattle.std.specs.Prelude.{◌&&◌, codes, if◌then◌else◌, length, nat_lt, slice_index, not}
use Rattle.std.specs.Cmp.{first_so, second_so, unsigned_Decides}
use Rattle.std.specs.Fmt.{decimal, digits}
use Rattle.std.specs.Int.{IsInRange}
use Rattle.std.specs.List.{AllByRecursion, onto_first}
use Rattle.std.proofs.lemmas.Bool.{lt-ltb}
use Rattle.std.proofs.lemmas.Fmt.{digits_decimal, digits_value-decimal}
use Rattle.std.proofs.lemmas.List.Splits.{slice_split-cons_yes, slice_split-cons_no}
use Rattle.std.proofs.lemmas.Str.Parse.{FoldsDigits, IsDigitsTest, IsNumeralModel, numerals_by_fold}
use Rattle.std.specs.declared.io.ErrorKind.{ErrorKind}
use Rattle.std.specs.declared.io.ErrorKind.TheVariants as kind
use Rattle.std.specs.declared.result.Result.TheVariants.{Ok}
use Rattle.std.proofs.lemmas.Bool.{false_from_ne_true}
use Rattle.hex.specs.Hex.{IsBytes, encode_lower, encode_with, lower_digits}
use Rattle.hex.proofs.HexLemmas.{decode_of-encode_lower}
use Rattle.crossterm_read.specs.Device.{DeviceAnswer, Bytes, Resized, Woken, Idle, Fault}
use Rattle.recorder.specs.Lines.{entry_answers, entry, line, lines, stamp, text, times_of}
use Rattle.recorder.specs.Reads.{EntriesReadBack, IsEntry, IsWritable, LinesReadBack, Session, is_comment, last_time, nothing, read_number, limited_after, only, or_else, pair, parts, read_after, read_hex_bytes, read_hex, read_line, read_next, read_then, read_time, read_numbers, read_pair, time_after, with_act, zeros}
use Rattle.recorder.proofs.Cutting.{parts_there}
use Rattle.crossterm_types.proofs.Lists.{all_append}

-- ---- parts

-- No element is that byte.
abbrev pub Without : ℕ → List ℕ → Type 0
Without c xs = AllByRecursion (λ b. (b == c) ≡ false) xs

-- A list without the byte is one part, and ends at the byte if one follows.
pub one_part : (c : ℕ) (xs : List ℕ) → Without c xs → parts c xs ≡ xs ∷ []
one_part c [] a = refl
one_part c (x ∷ xs) a = slice_split-cons_no (λ b. b == c) x xs a.0 ∙ ap (onto_first x) (one_part c xs a.1)

first_part : (c : ℕ) (xs ys : List ℕ) → (c == c) ≡ true → Without c xs → parts c (xs ++ c ∷ ys) ≡ xs ∷ parts c ys
first_part c [] ys same a = slice_split-cons_yes (λ b. b == c) c ys same
first_part c (x ∷ xs) ys same a = slice_split-cons_no (λ b. b == c) x (xs ++ c ∷ ys) a.0 ∙ ap (onto_first x) (first_part c xs ys same a.1)

all_of : {X : Type 0} (P Q : X → Type 0) → ((x : X) → P x → Q x) → (xs : List X) → AllByRecursion P xs → AllByRecursion Q xs
all_of P Q f [] a = tt
all_of P Q f (x ∷ xs) a = (f x a.0, all_of P Q f xs a.1)

-- Of texts that are known this computes.
abbrev lacks : ℕ → List ℕ → Bool
lacks c [] = true
lacks c (x ∷ xs) = not (x == c) && lacks c xs

not_so : (b : Bool) → not b ≡ true → b ≡ false
not_so true e = absurd (true≢false (sym e))
not_so false e = refl

without : (c : ℕ) (xs : List ℕ) → lacks c xs ≡ true → Without c xs
without c [] e = tt
without c (x ∷ xs) e = (not_so (x == c) (first_so (not (x == c)) (lacks c xs) e), without c xs (second_so (not (x == c)) (lacks c xs) e))

-- Bytes above 47 are no blank and no end of a line.
apart : (c b : ℕ) → c < b → (b == c) ≡ false
apart c b l = false_from_ne_true (b == c) (λ e. let is : b ≡ c = (unsigned_Decides b c).0 e in omega (arith, is, l))

above_without : (c : ℕ) → c < 48 → (xs : List ℕ) → AllByRecursion (λ b. 47 < b) xs → Without c xs
above_without c h xs a = all_of (λ b. 47 < b) (λ b. (b == c) ≡ false) (λ b l. apart c b (omega (arith, h, l))) xs a

-- ---- digits

abbrev all_below : (ℕ → Bool) → ℕ → Bool
all_below p zero = true
all_below p (suc n) = all_below p n && p n

each : (p : ℕ → Bool) (n : ℕ) → all_below p n ≡ true → (i : ℕ) → i < n → p i ≡ true
each p zero h i l = absurd (omega (arith, l))
each p (suc n) h i l =
    let is : (i == n) ≡ true → i ≡ n = (unsigned_Decides i n).0 in
    let so : i ≡ n → (i == n) ≡ true = (unsigned_Decides i n).1 in
    last (i == n) is so (each p n (first_so (all_below p n) (p n) h) i) (second_so (all_below p n) (p n) h)
  where
    last : (b : Bool) → (b ≡ true → i ≡ n) → (i ≡ n → b ≡ true) → (i < n → p i ≡ true) → p n ≡ true → p i ≡ true
    last true is so before at = subst (λ m. p m ≡ true) (sym (is refl)) at
    last false is so before at =
        let other : i ≡ n → ⊥ = λ e. true≢false (sym (so e)) in
        before (omega (arith, l, other))

-- Each hexadecimal digit is above 47: a number of at least 48 is one of 48 and more.
digit_high : (d : ℕ) → d < 16 → (slice_index lower_digits d - 47 == 0) ≡ false
digit_high d l = not_so (slice_index lower_digits d - 47 == 0) (each (λ d. not (slice_index lower_digits d - 47 == 0)) 16 refl d l)

high : (n : ℕ) → (n - 47 == 0) ≡ false → 47 < n
high n e =
    let other : n - 47 ≡ 0 → ⊥ = λ z. true≢false (sym ((unsigned_Decides (n - 47) 0).1 z) ∙ e) in
    omega (arith, other)

hex_above : (bytes : List ℕ) → IsBytes bytes → AllByRecursion (λ b. 47 < b) (encode_with lower_digits bytes)
unfolding encode_with
hex_above [] h = tt
hex_above (b ∷ bytes) h =
    let l : b < 256 = h 0 in
    (high _ (digit_high (b / 16) (omega (arith, l))), (high _ (digit_high (b % 16) (omega arith)), hex_above bytes (λ i. h (suc i))))

-- ---- numbers

abbrev value_after : ℕ → List ℕ → ℕ
value_after n [] = n
value_after n (d ∷ ds) = value_after (n * 10 + (d - 48)) ds

abbrev AreDigits : List ℕ → Type 0
AreDigits ds = AllByRecursion (IsInRange 48 57) ds

digits_test : IsDigitsTest AreDigits
digits_test = record { empty = tt; parts = λ c cs p. p; more = λ c cs k p. (k, p) }

folds : FoldsDigits value_after
folds = record { empty = λ n. refl; more = λ n c cs k. refl }

model : IsNumeralModel AreDigits (value_after 0)
model = numerals_by_fold AreDigits digits_test value_after folds

small : (limit n : ℕ) → limit ≤ 4294967296 → n < limit → n < 2 ^ 64
small limit n m l = omega (arith, m, l)

rises : (ds : List ℕ) (n : ℕ) → n ≤ value_after n ds
rises [] n = omega arith
rises (d ∷ ds) n = omega (arith, rises ds (n * 10 + (d - 48)))

chosen : {X : Type 0} (a b c : Bool) (x y : X) → a ≡ true → b ≡ true → c ≡ true → (if a && (b && c) then x else y) ≡ x
chosen true true true x y p q r = refl
chosen false b c x y p q r = absurd (true≢false (sym p))
chosen true false c x y p q r = absurd (true≢false (sym q))
chosen true true false x y p q r = absurd (true≢false (sym r))

number_reads : (limit : ℕ) (ds : List ℕ) (n : ℕ) → AreDigits ds → value_after n ds < limit → limited_after limit n ds ≡ Some (value_after n ds)
number_reads limit [] n a l = refl
number_reads limit (d ∷ ds) n a l =
    let low : 48 ≤ d = a.0.0 in
    let high : d ≤ 57 = a.0.1 in
    let next : n * 10 + (d - 48) < limit = omega (arith, l, rises ds (n * 10 + (d - 48))) in
    chosen (nat_lt 47 d) (nat_lt d 58) (nat_lt (n * 10 + (d - 48)) limit) (limited_after limit (n * 10 + (d - 48)) ds) None
    (lt-ltb 47 d (omega (arith, low))) (lt-ltb d 58 (omega (arith, high))) (lt-ltb (n * 10 + (d - 48)) limit next)
    ∙ number_reads limit ds (n * 10 + (d - 48)) a.1 l

digits_of_number : (limit n : ℕ) → limit ≤ 4294967296 → n < limit → AreDigits (decimal n)
digits_of_number limit n m l = digits_decimal model n (small limit n m l)

there : (limit n : ℕ) → limit ≤ 4294967296 → n < limit → (ds : List ℕ) → decimal n ≡ ds → read_number limit ds ≡ limited_after limit 0 ds
unfolding digits
there limit n m l [] e =
    let value : value_after 0 (decimal n) ≡ n = digits_value-decimal model n (small limit n m l) in
    let none : n ≡ 0 = sym value ∙ ap (value_after 0) e in
    let wrong : 1 ≡ 0 = ap length (ap decimal (sym none) ∙ e) in
    absurd (omega (arith, wrong))
there limit n m l (d ∷ ds) e = ap (λ b. if b then None else limited_after limit 0 (d ∷ ds)) (false_from_ne_true (length (d ∷ ds) == 0) (λ t. some t))
  where
    some : (length (d ∷ ds) == 0) ≡ true → ⊥
    some t = let none : length (d ∷ ds) ≡ 0 = (unsigned_Decides (length (d ∷ ds)) 0).0 t in omega (arith, none)

number_back : (limit n : ℕ) → limit ≤ 4294967296 → n < limit → read_number limit (decimal n) ≡ Some n
number_back limit n m l =
    let value : value_after 0 (decimal n) ≡ n = digits_value-decimal model n (small limit n m l) in
    there limit n m l (decimal n) refl ∙ number_reads limit (decimal n) 0 (digits_of_number limit n m l) (omega (arith, l, value)) ∙ ap Some value

number_above : (limit n : ℕ) → limit ≤ 4294967296 → n < limit → AllByRecursion (λ b. 47 < b) (decimal n)
number_above limit n m l = all_of (IsInRange 48 57) (λ b. 47 < b) (λ b k. let low : 48 ≤ b = k.0 in omega (arith, low)) (decimal n) (digits_of_number limit n m l)

-- ---- lines

fault_back : (k : ErrorKind) → read_line (line (Fault k)) ≡ Ok (Fault k)
fault_back kind.NotFound = refl
fault_back kind.PermissionDenied = refl
fault_back kind.ConnectionRefused = refl
fault_back kind.ConnectionReset = refl
fault_back kind.HostUnreachable = refl
fault_back kind.NetworkUnreachable = refl
fault_back kind.ConnectionAborted = refl
fault_back kind.NotConnected = refl
fault_back kind.AddrInUse = refl
fault_back kind.AddrNotAvailable = refl
fault_back kind.NetworkDown = refl
fault_back kind.BrokenPipe = refl
fault_back kind.AlreadyExists = refl
fault_back kind.WouldBlock = refl
fault_back kind.NotADirectory = refl
fault_back kind.IsADirectory = refl
fault_back kind.DirectoryNotEmpty = refl
fault_back kind.ReadOnlyFilesystem = refl
fault_back kind.FilesystemLoop = refl
fault_back kind.StaleNetworkFileHandle = refl
fault_back kind.InvalidInput = refl
fault_back kind.InvalidData = refl
fault_back kind.TimedOut = refl
fault_back kind.WriteZero = refl
fault_back kind.StorageFull = refl
fault_back kind.NotSeekable = refl
fault_back kind.QuotaExceeded = refl
fault_back kind.FileTooLarge = refl
fault_back kind.ResourceBusy = refl
fault_back kind.ExecutableFileBusy = refl
fault_back kind.Deadlock = refl
fault_back kind.CrossesDevices = refl
fault_back kind.TooManyLinks = refl
fault_back kind.InvalidFilename = refl
fault_back kind.ArgumentListTooLong = refl
fault_back kind.Interrupted = refl
fault_back kind.Unsupported = refl
fault_back kind.UnexpectedEof = refl
fault_back kind.OutOfMemory = refl
fault_back kind.InProgress = refl
fault_back kind.Other = refl
fault_back kind.Uncategorized = refl

fault_lacks : (k : ErrorKind) → lacks 10 (line (Fault k)) ≡ true
fault_lacks kind.NotFound = refl
fault_lacks kind.PermissionDenied = refl
fault_lacks kind.ConnectionRefused = refl
fault_lacks kind.ConnectionReset = refl
fault_lacks kind.HostUnreachable = refl
fault_lacks kind.NetworkUnreachable = refl
fault_lacks kind.ConnectionAborted = refl
fault_lacks kind.NotConnected = refl
fault_lacks kind.AddrInUse = refl
fault_lacks kind.AddrNotAvailable = refl
fault_lacks kind.NetworkDown = refl
fault_lacks kind.BrokenPipe = refl
fault_lacks kind.AlreadyExists = refl
fault_lacks kind.WouldBlock = refl
fault_lacks kind.NotADirectory = refl
fault_lacks kind.IsADirectory = refl
fault_lacks kind.DirectoryNotEmpty = refl
fault_lacks kind.ReadOnlyFilesystem = refl
fault_lacks kind.FilesystemLoop = refl
fault_lacks kind.StaleNetworkFileHandle = refl
fault_lacks kind.InvalidInput = refl
fault_lacks kind.InvalidData = refl
fault_lacks kind.TimedOut = refl
fault_lacks kind.WriteZero = refl
fault_lacks kind.StorageFull = refl
fault_lacks kind.NotSeekable = refl
fault_lacks kind.QuotaExceeded = refl
fault_lacks kind.FileTooLarge = refl
fault_lacks kind.ResourceBusy = refl
fault_lacks kind.ExecutableFileBusy = refl
fault_lacks kind.Deadlock = refl
fault_lacks kind.CrossesDevices = refl
fault_lacks kind.TooManyLinks = refl
fault_lacks kind.InvalidFilename = refl
fault_lacks kind.ArgumentListTooLong = refl
fault_lacks kind.Interrupted = refl
fault_lacks kind.Unsupported = refl
fault_lacks kind.UnexpectedEof = refl
fault_lacks kind.OutOfMemory = refl
fault_lacks kind.InProgress = refl
fault_lacks kind.Other = refl
fault_lacks kind.Uncategorized = refl

bytes_back : (bytes : List ℕ) (raw : Bool) → IsBytes bytes → read_line (line (Bytes bytes raw)) ≡ Ok (Bytes bytes raw)
bytes_back bytes true h =
    ap (λ words. read_hex_bytes true (only words)) (one_part 32 (encode_lower bytes) (above_without 32 (omega arith) (encode_lower bytes) (hex_above bytes h)))
    ∙ ap (read_hex true) (decode_of-encode_lower bytes h)
bytes_back bytes false h =
    ap (λ words. read_hex_bytes false (only words)) (one_part 32 (encode_lower bytes) (above_without 32 (omega arith) (encode_lower bytes) (hex_above bytes h)))
    ∙ ap (read_hex false) (decode_of-encode_lower bytes h)

size_back : (columns rows : ℕ) → columns < 65536 → rows < 65536 → read_line (line (Resized columns rows)) ≡ Ok (Resized columns rows)
size_back columns rows k l =
    ap (λ words. read_pair (pair words))
    (first_part 32 (decimal columns) (decimal rows) refl (above_without 32 (omega arith) (decimal columns) (number_above 65536 columns (omega arith) k))
    ∙ ap (λ words. decimal columns ∷ words) (one_part 32 (decimal rows) (above_without 32 (omega arith) (decimal rows) (number_above 65536 rows (omega arith) l))))
    ∙ ap (λ c. read_numbers c (read_number 65536 (decimal rows))) (number_back 65536 columns (omega arith) k)
    ∙ ap (λ r. read_numbers (Some columns) r) (number_back 65536 rows (omega arith) l)

line_back : (w : DeviceAnswer) → IsWritable w → read_line (line w) ≡ Ok w
line_back (Bytes bytes raw) h = bytes_back bytes raw h
line_back (Resized columns rows) h = size_back columns rows h.0 h.1
line_back Woken h = refl
line_back Idle h = refl
line_back (Fault k) h = fault_back k

pub no_end : (w : DeviceAnswer) → IsWritable w → Without 10 (line w)
no_end (Bytes bytes true) h = all_append _ (codes "raw ") (encode_lower bytes) (without 10 (codes "raw ") refl) (above_without 10 (omega arith) (encode_lower bytes) (hex_above bytes h))
no_end (Bytes bytes false) h = all_append _ (codes "piece ") (encode_lower bytes) (without 10 (codes "piece ") refl) (above_without 10 (omega arith) (encode_lower bytes) (hex_above bytes h))
no_end (Resized columns rows) h = all_append _ (codes "resize ") (decimal columns ++ 32 ∷ decimal rows) (without 10 (codes "resize ") refl)
    (all_append _ (decimal columns) (32 ∷ decimal rows) (above_without 10 (omega arith) (decimal columns) (number_above 65536 columns (omega arith) h.0))
    (refl, above_without 10 (omega arith) (decimal rows) (number_above 65536 rows (omega arith) h.1)))
no_end Woken h = without 10 (codes "wake") refl
no_end Idle h = without 10 (codes "idle") refl
no_end (Fault k) h = without 10 (line (Fault k)) (fault_lacks k)

no_comment : (w : DeviceAnswer) → is_comment (line w) ≡ false
no_comment (Bytes bytes true) = refl
no_comment (Bytes bytes false) = refl
no_comment (Resized columns rows) = refl
no_comment Woken = refl
no_comment Idle = refl
no_comment (Fault k) = refl

-- ---- times

time_back : (time n : ℕ) → n < 4294967296 → time_after time (stamp n) ≡ n
time_back time n l =
    ap (λ words. or_else time (read_time (pair words)))
    (first_part 32 (codes "#") (decimal n) refl (without 32 (codes "#") refl)
    ∙ ap (λ words. codes "#" ∷ words) (one_part 32 (decimal n) (above_without 32 (omega arith) (decimal n) (number_above 4294967296 n (omega arith) l))))
    ∙ ap (or_else time) (number_back 4294967296 n (omega arith) l)

pub no_end_of_stamp : (n : ℕ) → n < 4294967296 → Without 10 (stamp n)
no_end_of_stamp n l = all_append _ (codes "# ") (decimal n) (without 10 (codes "# ") refl) (above_without 10 (omega arith) (decimal n) (number_above 4294967296 n (omega arith) l))

-- ---- texts

-- A line with an end is read, and then the rest.
pub read_one : (s : Session) (n : ℕ) (first : List ℕ) (rest : List (List ℕ)) → (rest ≡ [] → ⊥) → read_after s n (first ∷ rest) ≡ read_then n (read_next s first) (λ t. read_after t (n + 1) rest)
read_one s n first [] f = absurd (f refl)
read_one s n [] (more ∷ rest) f = refl
read_one s n (b ∷ bs) (more ∷ rest) f = refl

-- The first line of a text is read, and then the rest.
pub read_first : (s t : Session) (n : ℕ) (first rest : List ℕ) → Without 10 first → read_next s first ≡ Ok t → read_after s n (parts 10 (first ++ 10 ∷ rest)) ≡ read_after t (n + 1) (parts 10 rest)
read_first s t n first rest a e =
    ap (read_after s n) (first_part 10 first rest refl a)
    ∙ read_one s n first (parts 10 rest) (parts_there 10 rest)
    ∙ ap (λ r. read_then n r (λ t. read_after t (n + 1) (parts 10 rest))) e

-- What is read of an answer's line.
abbrev pub after_line : Session → DeviceAnswer → Session
after_line s w = record { acts = s.acts ++ w ∷ []; times = s.times ++ s.end ∷ []; end = s.end }

pub line_read : (s : Session) (w : DeviceAnswer) → IsWritable w → read_next s (line w) ≡ Ok (after_line s w)
line_read s w h =
    ap (λ b. if b then Ok (record { acts = s.acts; times = s.times; end = time_after s.end (line w) }) else with_act s (read_line (line w))) (no_comment w)
    ∙ ap (with_act s) (line_back w h)

abbrev pub at : Session → ℕ → Session
at s time = record { acts = s.acts; times = s.times; end = time }

pub stamp_read : (s : Session) (n : ℕ) → n < 4294967296 → read_next s (stamp n) ≡ Ok (at s n)
stamp_read s n l = ap (λ time. Ok (at s time)) (time_back s.end n l)

abbrev joined_with : Session → List (ℕ × DeviceAnswer) → Session
joined_with s es = record { acts = s.acts ++ entry_answers es; times = s.times ++ times_of es; end = last_time s.end es }

pub entry_split : (e : ℕ × DeviceAnswer) (rest : List ℕ) → entry e ++ rest ≡ stamp e.0 ++ 10 ∷ (line e.1 ++ 10 ∷ rest)
entry_split e rest = append_assoc (stamp e.0) (10 ∷ (line e.1 ++ 10 ∷ [])) rest ∙ ap (λ l. stamp e.0 ++ 10 ∷ l) (append_assoc (line e.1) (10 ∷ []) rest)

all_read : (es : List (ℕ × DeviceAnswer)) (s : Session) (n : ℕ) → AllByRecursion IsEntry es → read_after s n (parts 10 (text es)) ≡ Ok (joined_with s es)
all_read [] s n h = ap (λ acts. Ok (record { acts = acts; times = s.times; end = s.end })) (sym (append-nil s.acts))
    ∙ ap (λ times. Ok (record { acts = s.acts ++ []; times = times; end = s.end })) (sym (append-nil s.times))
all_read (e ∷ es) s n h =
    ap (λ t. read_after s n (parts 10 t)) (entry_split e (text es))
    ∙ read_first s (at s e.0) n (stamp e.0) (line e.1 ++ 10 ∷ text es) (no_end_of_stamp e.0 h.0.0) (stamp_read s e.0 h.0.0)
    ∙ read_first (at s e.0) (after_line (at s e.0) e.1) (n + 1) (line e.1) (text es) (no_end e.1 h.0.1) (line_read (at s e.0) e.1 h.0.1)
    ∙ all_read es (after_line (at s e.0) e.1) (n + 1 + 1) h.1
    ∙ ap (λ acts. Ok (record { acts = acts; times = (s.times ++ e.0 ∷ []) ++ times_of es; end = last_time e.0 es })) (append_assoc s.acts (e.1 ∷ []) (entry_answers es))
    ∙ ap (λ times. Ok (record { acts = s.acts ++ e.1 ∷ entry_answers es; times = times; end = last_time e.0 es })) (append_assoc s.times (e.0 ∷ []) (times_of es))

pub all_read_back : EntriesReadBack
all_read_back es h = all_read es nothing 1 h

lines_read : (ws : List DeviceAnswer) (s : Session) (n : ℕ) → s.end ≡ 0 → AllByRecursion IsWritable ws
    → read_after s n (parts 10 (lines ws)) ≡ Ok (record { acts = s.acts ++ ws; times = s.times ++ zeros ws; end = s.end })
lines_read [] s n z h = ap (λ acts. Ok (record { acts = acts; times = s.times; end = s.end })) (sym (append-nil s.acts))
    ∙ ap (λ times. Ok (record { acts = s.acts ++ []; times = times; end = s.end })) (sym (append-nil s.times))
lines_read (w ∷ ws) s n z h =
    read_first s (after_line s w) n (line w) (lines ws) (no_end w h.0) (line_read s w h.0)
    ∙ lines_read ws (after_line s w) (n + 1) z h.1
    ∙ ap (λ acts. Ok (record { acts = acts; times = (s.times ++ s.end ∷ []) ++ zeros ws; end = s.end })) (append_assoc s.acts (w ∷ []) ws)
    ∙ ap (λ times. Ok (record { acts = s.acts ++ w ∷ ws; times = times; end = s.end })) (append_assoc s.times (s.end ∷ []) (zeros ws))
    ∙ ap (λ z. Ok (record { acts = s.acts ++ w ∷ ws; times = s.times ++ z ∷ zeros ws; end = s.end })) z

pub lines_read_back : LinesReadBack
lines_read_back ws h = lines_read ws nothing 1 refl h
