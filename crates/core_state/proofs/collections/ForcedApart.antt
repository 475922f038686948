-- What a collection forces leaves the others as they were.
use Rattle.core_state.proofs.Common.{Bound, BufferName, Fails, Forces, Grows, Initial, IsWhole, Logical, Mark, No_live, Rests, Some}
use Rattle.core_state.proofs.Common.{Timeline, Why, [], buffers_of, false, filter, forced_why, grows_forced, held, held_after, home}
use Rattle.core_state.proofs.Common.{next_forced, nodes_after, of_ours, refl, settled, settled_rests, whole, ℕ, ◌==◌, ◌∙◌, ◌∷◌, ◌≡◌}
use Rattle.sm_names.specs.Timelines.{Settles}
use Rattle.core_state.proofs.collections.MarksApart.{IsIn, is_beside, buffers_apart, nodes_apart, held_apart, home_apart, beside_apart}

-- the other collections are as they were
pub record SameBeside (pool ours : ℕ) (earlier later : Timeline) : Type 0 where
  pub nodes : (theirs : ℕ) → (ours == theirs) ≡ false → nodes_after later theirs ≡ nodes_after earlier theirs
  pub buffers : (theirs : ℕ) → (ours == theirs) ≡ false → buffers_of later theirs ≡ buffers_of earlier theirs
  pub pages : (theirs : ℕ) → (ours == theirs) ≡ false → held_after pool later theirs ≡ held_after pool earlier theirs
  pub homes : (buffer : BufferName) → (ours == buffer.collection) ≡ false → home later buffer ≡ home earlier buffer
  pub all_pages : filter (is_beside ours) (held pool later) ≡ filter (is_beside ours) (held pool earlier)

-- they are as they are
same_beside_refl : (pool ours : ℕ) (marks : Timeline) → SameBeside pool ours marks marks
same_beside_refl pool ours marks = record {
  nodes = λ theirs other. refl;
  buffers = λ theirs other. refl;
  pages = λ theirs other. refl;
  homes = λ buffer other. refl;
  all_pages = refl;
}

-- and are so after more marks that leave them so
same_beside_on : (pool ours : ℕ) (earlier between later : Timeline) → SameBeside pool ours between later →
    SameBeside pool ours earlier between → SameBeside pool ours earlier later
same_beside_on pool ours earlier between later s t = record {
  nodes = λ theirs other. s.nodes theirs other ∙ t.nodes theirs other;
  buffers = λ theirs other. s.buffers theirs other ∙ t.buffers theirs other;
  pages = λ theirs other. s.pages theirs other ∙ t.pages theirs other;
  homes = λ buffer other. s.homes buffer other ∙ t.homes buffer other;
  all_pages = s.all_pages ∙ t.all_pages;
}

-- one more mark at a node of the collection
pub same_beside_mark : (pool ours : ℕ) (marks : Timeline) (mark : Mark) → IsWhole marks → IsIn marks ours mark →
    SameBeside pool ours marks (mark ∷ marks)
same_beside_mark pool ours marks mark w at = record {
  nodes = nodes_apart marks ours w mark at;
  buffers = buffers_apart marks ours w mark at;
  pages = held_apart marks ours w pool mark at;
  homes = home_apart marks ours w mark at;
  all_pages = beside_apart marks ours w pool mark at;
}

-- a mark that the collection forces is at one of its nodes
forced_in : (pool ours : ℕ) (marks : Timeline) (mark : Mark) → IsWhole marks → next_forced pool ours marks ≡ Some mark →
    IsIn marks ours mark
forced_in pool ours marks mark w e = by_why mark (forced_why pool ours marks mark e)
  where
    -- by cases on why the mark is forced: each is at a node of the collection
    by_why : (mark : Mark) → Why pool ours marks mark → IsIn marks ours mark
    by_why _ (No_live b on its free none) = of_ours marks ours w b on its
    by_why _ (Fails b cause on its free) = of_ours marks ours w b on its
    by_why _ (Initial b on its root free waits found fits) = of_ours marks ours w b on its
    by_why _ (Logical b on its child free waits attached) = of_ours marks ours w b on its

-- so all that it forces leaves the others as they were
settles_beside : (pool : ℕ) (limits : Bound) (ours : ℕ) (marks later : Timeline) → Grows pool limits [] marks →
    Settles pool ours marks later → SameBeside pool ours marks later
settles_beside pool limits ours marks _ grown (Rests _ none) = same_beside_refl pool ours marks
settles_beside pool limits ours marks _ grown (Forces _ later mark some next) =
    let w : IsWhole marks = whole pool limits marks grown in
    same_beside_on pool ours marks (mark ∷ marks) later (settles_beside pool limits ours (mark ∷ marks) later
    (grows_forced pool limits [] ours marks mark grown some) next)
    (same_beside_mark pool ours marks mark w (forced_in pool ours marks mark w some))

-- and what the marks are settled to does
pub settled_beside : (pool : ℕ) (limits : Bound) (ours : ℕ) (marks : Timeline) → Grows pool limits [] marks →
    SameBeside pool ours marks (settled pool ours marks)
settled_beside pool limits ours marks grown =
    settles_beside pool limits ours marks (settled pool ours marks) grown (settled_rests pool ours marks
    (whole pool limits marks grown).sound).1
