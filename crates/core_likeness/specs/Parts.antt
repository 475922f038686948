-- What the parts of the comparison find.
use Rattle.std.specs.Prelude.{◌≡◌, ℕ, Bool, true, false, List}
use Rattle.sm_names.specs.declared.keys.BufferName.{BufferName}
use Rattle.sm_names.specs.declared.keys.Strength.{Strength}
use Rattle.buffer_holds.specs.Counts.{Counts, of, total}
use Rattle.forest_store.specs.declared.node.Node.{Node}
use Rattle.sm_names.specs.Elements.{In}
use Rattle.sm_names.specs.Marks.{Entry}
use Rattle.alike_cores.specs.Renamed.{buffer_renamed}
use Rattle.core_likeness.specs.Told.{is_opened, opening_by}

-- the marks of the nodes are the same
pub record SameFlags (one other : Node) : Type 0 where
  pub attached : other.attached ≡ one.attached
  pub allocated : other.allocated ≡ one.allocated
  pub gone : other.gone ≡ one.gone
  pub released : other.released ≡ one.released
  pub dispensable : other.dispensable ≡ one.dispensable
  pub weak : other.weak ≡ one.weak
  pub weak_ok : other.weak_ok ≡ one.weak_ok
  pub covers : other.covers ≡ one.covers
  pub took : other.took ≡ one.took
  pub bound : other.bound ≡ one.bound

-- the client has as many handles of the other buffer as of the one, and so have all
pub record SameCounts (one other : Counts) (client : ℕ) (b c : BufferName) (strength : Strength) : Type 0 where
  pub own : of other client c strength ≡ of one client b strength
  pub all : total other c strength ≡ total one b strength

-- this is the buffer's name: the old one, or the new one
abbrev pub IsPaired : (ℕ → ℕ) → Bool → BufferName → BufferName → Type 0
IsPaired id true old buffer = buffer ≡ old
IsPaired id false old buffer = buffer ≡ buffer_renamed id old

-- the counts of the buffer, which has its old name or the new one, are the same
pub record IsCounted (one other : Counts) (id : ℕ → ℕ) (is_old : Bool) (client : ℕ) (buffer : BufferName) (strength : Strength) : Type 0
  where
    pub old : BufferName
    pub paired : IsPaired id is_old old buffer
    pub counts : SameCounts one other client old (buffer_renamed id old) strength

-- so are those of each buffer on which one of these entries brought its client handles
abbrev pub AreCounted : Counts → Counts → (ℕ → ℕ) → Bool → List Entry → Type 0
AreCounted one other id is_old entries = (e : Entry) → In e entries → (buffer : BufferName) (strength : Strength) →
    is_opened (opening_by e.1 e.2) buffer ≡ true → IsCounted one other id is_old e.0 buffer strength
