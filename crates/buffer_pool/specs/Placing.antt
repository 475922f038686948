-- What placing buffers makes of a pool.
use Rattle.std.specs.Prelude.{◌≡◌, ℕ, ◌*◌, ◌≤◌, List, length, Some}
use Rattle.sm_names.specs.Pages.{places}
use Rattle.buffer_pool.specs.Holes.{holes_of}
use Rattle.buffer_pool.specs.Holdings.{Holdings, with_buffers}
use Rattle.buffer_pool.specs.Looks.{looks_for}

-- the buffers lie where the definition puts them, are held beside what was held, and a first fit looks for each at one hole at least, and once at each hole at most
pub record PlacesBuffers (old new : Holdings) (count pages : ℕ) (starts : List ℕ) (looks : ℕ) : Type 0 where
  pub starts_are : places old.size pages count old.held ≡ Some starts
  pub held_are : new ≡ record old { held = with_buffers pages starts old.held }
  pub looks_are : looks ≡ looks_for old.size pages starts old.held
  pub looks_enough : count ≤ looks
  pub looks_few : looks ≤ count * length (holes_of old.size old.held)
