use Rattle.forest_store.proofs.Common.{◌≡◌, ◌++◌, take, pages_held}
use Rattle.forest_store.proofs.lookup.add_pages.Given as goal

-- so far the pages of these buffers
abbrev pub invariant-loop-buffer : goal.invariant-loop-buffer
invariant-loop-buffer l = l.pages.items ≡ l.initial.pages.items ++ pages_held (take l.buffer-index l.held)
