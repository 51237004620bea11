-- What stands behind a pointer as a state: a struct is what lies in memory, part by part. Assumes nothing.
use Rattle.std.specs.Prelude.{◌≡◌, refl, List, [], ◌∷◌}
use seplogic.Ra.Ura.{Ura}
use mir.Syntax.{Sym, w8, w32, w64, ty_int, ty_array}
use mir.Val.{Val}
use types.Logic.{Logic}
use denote.RattleType.{Denots}
use denote.Laws.{Is, Lawfuls}
use denote.Builtin.{Array, u8, u32, u64}
use denote.Struct.Struct.{Struct, layout}
use denote.Struct.Declared.{Declared, shape}
use denote.Struct.Members.{Member, rows_of}
use denote.Struct.Laws as LL
use Rattle.recv.specs.Lent.{counts_of, whole}
use Rattle.recv.specs.declared.ReceiveBuffer.{ReceiveBuffer}
use Rattle.recv.specs.contracts.Counts as C
use Rattle.sent.specs.Whole.{head_of}
use Rattle.sent.specs.contracts.head.Head as Hd
use Rattle.sent.specs.declared.state.SentPackets.{SentPackets}
use Rattle.sent_lent.specs.Lent.{marks_of, pairs_of, sizes_of, times_of, whole_in as sent_in}
use Rattle.sent_lent.specs.contracts.columns.Columns as Cols
use Rattle.sent_lent.specs.contracts.pairs.Pairs as Two
use Rattle.ribsaddle.specs.Parts.{parts_of, whole_of}
use Rattle.ribsaddle.specs.declared.receiver.Receiver.{Receiver}
use Rattle.ribsaddle.specs.contracts.receiver.Receiver as Parts
use Rattle.ribsaddle.proofs.receiver.Receiver.TheLaws as Parts'
use Rattle.ribsaddle.specs.Tracker.{Sized, parts_of as sent_parts, whole_of as sent_whole}
use Rattle.ribsaddle.specs.declared.tracker.Tracker.{Tracker}
use Rattle.ribsaddle.specs.contracts.tracker.Tracker as T
use Rattle.ribsaddle.proofs.tracker.Tracker.TheLaws as T'

-- a field of a struct's type
abbrev pub member : Declared → Member
member D = record { row = Struct (shape D); ty = layout (shape D) }

-- ---- the receiver in two parts: its counts and its table

abbrev pub counts : Declared
counts = C.the_type

abbrev pub table : Member
table = record { row = Array u32 tt 256; ty = ty_array (ty_int w32) 256 }

abbrev pub receiver_name : Sym
receiver_name = (Parts.struct).name

abbrev pub receiver_to : Receiver → Denots (rows_of (member counts ∷ table ∷ []))
receiver_to = (Parts.the_type).to

abbrev pub receiver_one : (x y : Receiver) → receiver_to x ≡ receiver_to y → x ≡ y
receiver_one = (Parts.the_type).to_one

abbrev pub receiver_lawful : (M : Type 1) (𝓤 : Ura M) (𝓛 : Logic 𝓤) → Lawfuls 𝓛 (rows_of (member counts ∷ table ∷ []))
receiver_lawful M 𝓤 𝓛 = LL.lawfuls 𝓛 (Parts.the_type).parts Parts'.the_laws

-- the table in memory is the list itself
pub stored : (t : Receiver) {X : Type 0} (f : ReceiveBuffer → X) → f (whole t.counts (receiver_to t).1.0) ≡ f (whole_of t)
stored t f = refl

pub next_is :
    (t : Receiver) (f : ReceiveBuffer → ReceiveBuffer)
    → (counts.to (counts_of (f (whole t.counts (receiver_to t).1.0))), ((f (whole t.counts (receiver_to t).1.0)).waiting, tt)) ≡ receiver_to (parts_of (f (whole_of t)))
next_is t f = refl

-- ---- the tracker in parts: its head, and its arrays in their two structs

abbrev pub head : Declared
head = Hd.the_type

abbrev pub pairs : Declared
pairs = Two.the_type

abbrev pub columns : Declared
columns = Cols.the_type

abbrev pub samples : Member
samples = record { row = Array u64 tt 2048; ty = ty_array (ty_int w64) 2048 }

abbrev pub times : Member
times = record { row = Array u64 tt 512; ty = ty_array (ty_int w64) 512 }

abbrev pub sizes : Member
sizes = record { row = Array u32 tt 1024; ty = ty_array (ty_int w32) 1024 }

abbrev pub marks : Member
marks = record { row = Array u8 tt 2048; ty = ty_array (ty_int w8) 2048 }

abbrev pub tracker_name : Sym
tracker_name = (T.struct).name

abbrev pub tracker_to : Tracker → Denots (rows_of (member head ∷ member pairs ∷ member columns ∷ []))
tracker_to = (T.the_type).to

abbrev pub tracker_one : (x y : Tracker) → tracker_to x ≡ tracker_to y → x ≡ y
tracker_one = (T.the_type).to_one

abbrev pub tracker_lawful : (M : Type 1) (𝓤 : Ura M) (𝓛 : Logic 𝓤) → Lawfuls 𝓛 (rows_of (member head ∷ member pairs ∷ member columns ∷ []))
tracker_lawful M 𝓤 𝓛 = LL.lawfuls 𝓛 (T.the_type).parts T'.the_laws

-- the arrays in memory
abbrev samples_at : Tracker → Denots (rows_of (samples ∷ []))
samples_at t = (tracker_to t).1.0

abbrev packets_at : Tracker → Denots (rows_of (times ∷ sizes ∷ marks ∷ []))
packets_at t = (tracker_to t).1.1.0

-- the state that head and arrays in memory make up
abbrev in_memory : Tracker → SentPackets
in_memory t = sent_in t.head (samples_at t).0 (packets_at t).0 (packets_at t).1.0 (packets_at t).1.1.0

pub sent_stored : (t : Tracker) {X : Type 0} (f : SentPackets → X) → f (in_memory t) ≡ f (sent_whole t)
sent_stored t f = refl

pub sent_next :
    (t : Tracker) (f : SentPackets → SentPackets)
    → (head.to (head_of (f (in_memory t))), ((pairs_of (f (in_memory t)).delays.kept, tt), ((times_of (f (in_memory t)).packets, (sizes_of (f (in_memory t)).packets, (marks_of (f (in_memory t)).packets, tt))), tt)))
    ≡ tracker_to (sent_parts (f (sent_whole t)))
sent_next t f = refl

-- what lies in memory at the arrays' types has their lengths
pub sized :
    (t : Tracker) (us vs ws xs : List Val)
    → Is samples.row (samples_at t).0 us → Is times.row (packets_at t).0 vs → Is sizes.row (packets_at t).1.0 ws → Is marks.row (packets_at t).1.1.0 xs
    → Sized (samples_at t).0 (packets_at t).0 (packets_at t).1.0 (packets_at t).1.1.0
sized t us vs ws xs p q r s = (p.1.0.1, record { times_512 = q.1.0.1; sizes_1024 = r.1.0.1; marks_2048 = s.1.0.1 })
