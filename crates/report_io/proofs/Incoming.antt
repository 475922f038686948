-- Bytes that come in, piece after piece.
use Rattle.std.proofs.Common.{◌≡◌, ℕ, ◌+◌, ◌-◌, ◌<◌, ◌≤◌, List, ◌++◌, length, length-append, arith, Option}
use Rattle.std.proofs.KnownBytes.{Consumes-trans, Consumes-kept}
use Rattle.std.specs.Io.KnownBytes.{Consumes, Keeps}
use Rattle.script_lines.specs.declared.TheConstants.{MOST_BYTES}
use Rattle.report_io.specs.Streams.{Came, CameBeyond}

-- these bytes came, and this many more may come
pub record IsIn (left_before left : Option (List ℕ)) (script : List ℕ) (room : ℕ) : Type 0 where
  pub taken : Consumes left_before left script
  pub counted : length script + room ≡ MOST_BYTES

module _ (left_before left : Option (List ℕ)) (script : List ℕ) (room : ℕ) (so_far : IsIn left_before left script room) where
  -- a piece more came
  pub in-more : (later : Option (List ℕ)) (piece : List ℕ) (count : ℕ) → Consumes left later piece → length piece ≡ count →
      count ≤ room → IsIn left_before later (script ++ piece) (room - count)
  in-more later piece count more is fits = record {
    taken = Consumes-trans left_before left later script piece so_far.taken more;
    counted = rw length-append (omega (arith, so_far.counted, is, fits));
  }

  -- no more than may come came
  pub in-within : length script ≤ MOST_BYTES
  in-within = omega (arith, so_far.counted)

  -- a read failed behind these bytes
  pub in-unread : (later : Option (List ℕ)) → Keeps left later → Came left_before later
  in-unread later kept = record {
    bytes = script;
    taken = Consumes-kept left_before left later script so_far.taken kept;
    within = in-within;
  }

  -- one more piece came, and what is refused is memory for it
  pub in-refused : (later : Option (List ℕ)) (piece : List ℕ) → Consumes left later piece → length piece ≤ room →
      Came left_before later
  in-refused later piece more fits = record {
    bytes = script ++ piece;
    taken = Consumes-trans left_before left later script piece so_far.taken more;
    within = rw length-append (omega (arith, so_far.counted, fits));
  }

  -- a piece came that is too long
  pub in-beyond : (later : Option (List ℕ)) (piece : List ℕ) → Consumes left later piece → room < length piece →
      CameBeyond left_before later
  in-beyond later piece more long = record {
    bytes = script ++ piece;
    taken = Consumes-trans left_before left later script piece so_far.taken more;
    beyond = rw length-append (omega (arith, so_far.counted, long));
  }
