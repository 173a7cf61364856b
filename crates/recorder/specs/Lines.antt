-- How the answers of a device are written: each is a line, after a line with its time.
use Rattle.std.specs.Prelude.{ℕ, Bool, codes, List, [], ◌∷◌, ◌++◌, map, if◌then◌else◌}
use Rattle.std.specs.Fmt.{decimal}
use Rattle.std.specs.declared.io.ErrorKind.{ErrorKind}
use Rattle.std.specs.declared.io.ErrorKind.TheVariants as kind
use Rattle.hex.specs.Hex.{encode_lower}
use Rattle.crossterm_read.specs.Device.{DeviceAnswer, Bytes, Resized, Woken, Idle, Fault}
use Rattle.crossterm_read.specs.declared.source.script.Act.{Act}
use Rattle.crossterm_read.specs.declared.source.script.Act.TheVariants as act

-- The name of an error kind, as `NotFound`.
abbrev pub kind_name : ErrorKind → List ℕ
kind_name kind.NotFound = codes "NotFound"
kind_name kind.PermissionDenied = codes "PermissionDenied"
kind_name kind.ConnectionRefused = codes "ConnectionRefused"
kind_name kind.ConnectionReset = codes "ConnectionReset"
kind_name kind.HostUnreachable = codes "HostUnreachable"
kind_name kind.NetworkUnreachable = codes "NetworkUnreachable"
kind_name kind.ConnectionAborted = codes "ConnectionAborted"
kind_name kind.NotConnected = codes "NotConnected"
kind_name kind.AddrInUse = codes "AddrInUse"
kind_name kind.AddrNotAvailable = codes "AddrNotAvailable"
kind_name kind.NetworkDown = codes "NetworkDown"
kind_name kind.BrokenPipe = codes "BrokenPipe"
kind_name kind.AlreadyExists = codes "AlreadyExists"
kind_name kind.WouldBlock = codes "WouldBlock"
kind_name kind.NotADirectory = codes "NotADirectory"
kind_name kind.IsADirectory = codes "IsADirectory"
kind_name kind.DirectoryNotEmpty = codes "DirectoryNotEmpty"
kind_name kind.ReadOnlyFilesystem = codes "ReadOnlyFilesystem"
kind_name kind.FilesystemLoop = codes "FilesystemLoop"
kind_name kind.StaleNetworkFileHandle = codes "StaleNetworkFileHandle"
kind_name kind.InvalidInput = codes "InvalidInput"
kind_name kind.InvalidData = codes "InvalidData"
kind_name kind.TimedOut = codes "TimedOut"
kind_name kind.WriteZero = codes "WriteZero"
kind_name kind.StorageFull = codes "StorageFull"
kind_name kind.NotSeekable = codes "NotSeekable"
kind_name kind.QuotaExceeded = codes "QuotaExceeded"
kind_name kind.FileTooLarge = codes "FileTooLarge"
kind_name kind.ResourceBusy = codes "ResourceBusy"
kind_name kind.ExecutableFileBusy = codes "ExecutableFileBusy"
kind_name kind.Deadlock = codes "Deadlock"
kind_name kind.CrossesDevices = codes "CrossesDevices"
kind_name kind.TooManyLinks = codes "TooManyLinks"
kind_name kind.InvalidFilename = codes "InvalidFilename"
kind_name kind.ArgumentListTooLong = codes "ArgumentListTooLong"
kind_name kind.Interrupted = codes "Interrupted"
kind_name kind.Unsupported = codes "Unsupported"
kind_name kind.UnexpectedEof = codes "UnexpectedEof"
kind_name kind.OutOfMemory = codes "OutOfMemory"
kind_name kind.InProgress = codes "InProgress"
kind_name kind.Other = codes "Other"
kind_name kind.Uncategorized = codes "Uncategorized"

-- All error kinds.
abbrev pub error_kinds : List ErrorKind
error_kinds =
    kind.NotFound ∷ kind.PermissionDenied ∷ kind.ConnectionRefused ∷ kind.ConnectionReset ∷ kind.HostUnreachable ∷ kind.NetworkUnreachable ∷
    kind.ConnectionAborted ∷ kind.NotConnected ∷ kind.AddrInUse ∷ kind.AddrNotAvailable ∷ kind.NetworkDown ∷ kind.BrokenPipe ∷
    kind.AlreadyExists ∷ kind.WouldBlock ∷ kind.NotADirectory ∷ kind.IsADirectory ∷ kind.DirectoryNotEmpty ∷ kind.ReadOnlyFilesystem ∷
    kind.FilesystemLoop ∷ kind.StaleNetworkFileHandle ∷ kind.InvalidInput ∷ kind.InvalidData ∷ kind.TimedOut ∷ kind.WriteZero ∷
    kind.StorageFull ∷ kind.NotSeekable ∷ kind.QuotaExceeded ∷ kind.FileTooLarge ∷ kind.ResourceBusy ∷ kind.ExecutableFileBusy ∷
    kind.Deadlock ∷ kind.CrossesDevices ∷ kind.TooManyLinks ∷ kind.InvalidFilename ∷ kind.ArgumentListTooLong ∷ kind.Interrupted ∷
    kind.Unsupported ∷ kind.UnexpectedEof ∷ kind.OutOfMemory ∷ kind.InProgress ∷ kind.Other ∷ kind.Uncategorized ∷ []

-- Error kinds with their names.
abbrev pub named_kinds : List ErrorKind → List (List ℕ × ErrorKind)
named_kinds ks = map (λ k. (kind_name k, k)) ks

-- The word before bytes: `raw` in raw mode, otherwise `piece`.
abbrev pub bytes_word : Bool → List ℕ
bytes_word raw = if raw then codes "raw" else codes "piece"

-- An answer as a line without its end. Bytes are in hexadecimal digits, as `piece 1b5b41`.
abbrev pub line : DeviceAnswer → List ℕ
line (Bytes bytes raw) = bytes_word raw ++ 32 ∷ encode_lower bytes
line (Resized columns rows) = codes "resize" ++ 32 ∷ (decimal columns ++ 32 ∷ decimal rows)
line Woken = codes "wake"
line Idle = codes "idle"
line (Fault kind) = codes "fault" ++ 32 ∷ kind_name kind

-- A time as a line without its end, which is a comment, as `# 1500`.
abbrev pub stamp : ℕ → List ℕ
stamp time = codes "#" ++ 32 ∷ decimal time

-- A time and an answer as two lines with their ends.
abbrev pub entry : ℕ × DeviceAnswer → List ℕ
entry e = stamp e.0 ++ 10 ∷ (line e.1 ++ 10 ∷ [])

-- The text of a recording: its entries, in order.
abbrev pub text : List (ℕ × DeviceAnswer) → List ℕ
text [] = []
text (e ∷ es) = entry e ++ text es

-- The lines of answers with their ends, without times.
abbrev pub lines : List DeviceAnswer → List ℕ
lines [] = []
lines (w ∷ ws) = line w ++ 10 ∷ lines ws

-- The times of entries.
abbrev pub times_of : List (ℕ × DeviceAnswer) → List ℕ
times_of es = map (λ e. e.0) es

-- The answers of entries.
abbrev pub entry_answers : List (ℕ × DeviceAnswer) → List DeviceAnswer
entry_answers es = map (λ e. e.1) es

-- The answer that an act describes, however long its bytes are.
abbrev pub act_answer : {A : Type 0} → Act A → DeviceAnswer
act_answer (act.Piece bytes raw) = Bytes bytes.items raw
act_answer (act.Resize columns rows) = Resized columns rows
act_answer act.Woken = Woken
act_answer act.Idle = Idle
act_answer (act.Fault k) = Fault k
