-- The fifteen marked cases of document 01 as one list under one statement: what the definitions compute for each is what the document writes.
use Rattle.std.specs.Prelude.{ℕ, List, [], ◌∷◌, ◌++◌, ◌≡◌, refl, get_or}
use Prim.Native.String.{String}
use Rattle.std.proofs.Common.{ap}
use Rattle.common.specs.Case.{Case, AllHold, all_append}
use Rattle.packet.specs.Marked as Packet
use Rattle.packet.specs.Decode.{decode_of}
use Rattle.packet.specs.Layout.{fields_of}
use Rattle.packet.specs.Chain.{chain_from}
use Rattle.controller.specs.Marked as Congestion
use Rattle.recv.specs.Marked as Recv
use Rattle.outgoing.specs.Marked as Sent

-- Row i of a crate's table of what was found and what is written.
abbrev row : List (List ℕ) → List (List ℕ) → String → ℕ → Case
row found written mark i = record { mark = mark; found = get_or found i []; written = get_or written i [] }

abbrev congestion : String → ℕ → Case
congestion = row Congestion.found_of Congestion.written_of

abbrev recv : String → ℕ → Case
recv = row Recv.found Recv.written

abbrev window : List Case
window = congestion "W1" 0 ∷ congestion "W2" 1 ∷ congestion "W3" 2 ∷ congestion "W4" 3 ∷ congestion "W5" 4 ∷ []

abbrev receiving : List Case
receiving = recv "R1" 0 ∷ recv "R2" 1 ∷ []

abbrev pub marked : List Case
marked = Packet.cases ++ (window ++ (Sent.cases ++ receiving))

packets_hold : AllHold Packet.cases
unfolding Packet.cases decode_of fields_of chain_from
packets_hold = (refl, (refl, (refl, (refl, (refl, tt)))))

pub marked_hold : AllHold marked
marked_hold =
    all_append Packet.cases (window ++ (Sent.cases ++ receiving)) packets_hold
    (all_append window (Sent.cases ++ receiving) (w 0, (w 1, (w 2, (w 3, (w 4, tt))))) (all_append Sent.cases receiving Sent.cases_hold (r 0, (r 1, tt))))
  where
    w : (i : ℕ) → get_or Congestion.found_of i [] ≡ get_or Congestion.written_of i []
    w i = ap (λ (l : List (List ℕ)). get_or l i []) Congestion.marked

    r : (i : ℕ) → get_or Recv.found i [] ≡ get_or Recv.written i []
    r i = ap (λ (l : List (List ℕ)). get_or l i []) Recv.marked
