use Rattle.std.proofs.Common.{◌≡◌, ℕ, ◌<◌, ◌≤◌, List, [], ◌++◌, length, length-drop, length-take, take, drop}
use Rattle.std.proofs.Common.{arith, append-nil, take-append-drop, refl, sym, ap, ◌∙◌, subst, Ok}
use Rattle.std.proofs.KnownBytes.{Consumes-nil}
use Rattle.std.proofs.lemmas.List.{take-take}
use Rattle.std.specs.Io.KnownBytes.{Consumes}
use Rattle.sm_script.proofs.Running.{come-more, runs-unread, runs-broken, runs-ended, runs-long, runs-unended, read-end}
use Rattle.sm_script.proofs.run.read_on.Goals as goal

-- nothing came
pub turns-init : goal.turns-init
turns-init g c = record {
  script = [];
  taken = Consumes-nil _;
  counted = refl;
  stands = c.requires.start;
  rest = c.requires.no_front;
  empty = c.requires.no_text;
  few = omega (arith, c.requires.start.counted);
}

pub returns-in-Err : goal.returns-in-Err
returns-in-Err g c = runs-unread _ _ _ _ _ _ _ _ c.turns.invariant _ c.in-Err.ensures.bytes

-- the bytes that may still come, and those behind them
two-parts : (bytes : List ℕ) (n left : ℕ) → left ≤ n → take left bytes ++ drop left (take n bytes) ≡ take n bytes
two-parts bytes n left within =
    ap (λ front. front ++ drop left (take n bytes)) (sym (take-take left n bytes within)) ∙ take-append-drop left (take n bytes)

-- a script that is too long, all of whose lines were answered
pub returns-in-Ok-take : goal.returns-in-Ok-take
returns-in-Ok-take g c =
    let left = c.turns.left in
    let n = c.in-Ok.n in
    let bytes = c.read.new.buf in
    let more : left < n = omega (arith, c.if-left-n.true) in
    let within : left ≤ n = omega (arith, more) in
    let whole : length (take n bytes) ≡ n = omega (arith, length-take n bytes, c.in-Ok.ensures.bound.0, c.in-Ok.ensures.bound.1) in
    runs-long _ _ _ _ _ _ _ _ c.turns.invariant _ _ (take left bytes) _ (drop left (take n bytes))
    (subst (Consumes (g.R.Read.remaining c.turns.reader) (g.R.Read.remaining c.read.new.self)) (sym (two-parts bytes n left within))
    c.in-Ok.ensures.bytes.0)
    (omega (arith, length-take left bytes, c.in-Ok.ensures.bound.0, within))
    (λ some. omega (arith, length-take left bytes, c.in-Ok.ensures.bound.0, within)) c.in-Ok-take.field-0 c.take.new.self
    (λ none. let empty : length (drop left (take n bytes)) ≡ 0 = ap length none in
    omega (arith, length-drop left (take n bytes), whole, empty, more))
    c.in-Ok-take.ensures.ok c.in-Ok-take.ensures.empty

-- the same, where one was not answered
pub returns-in-Err-take : goal.returns-in-Err-take
returns-in-Err-take g c =
    let left = c.turns.left in
    let n = c.in-Ok.n in
    let bytes = c.read.new.buf in
    let within : left ≤ n = omega (arith, c.if-left-n.true) in
    runs-broken _ _ _ _ _ _ _ _ c.turns.invariant _ _ (take left bytes) _ (drop left (take n bytes))
    (subst (Consumes (g.R.Read.remaining c.turns.reader) (g.R.Read.remaining c.read.new.self)) (sym (two-parts bytes n left within))
    c.in-Ok.ensures.bytes.0)
    (omega (arith, length-take left bytes, c.in-Ok.ensures.bound.0, within))
    (λ some. omega (arith, length-take left bytes, c.in-Ok.ensures.bound.0, within)) c.in-Err-take.fault c.in-Err-take.ensures.err

pub returns-in-Err-take-2 : goal.returns-in-Err-take-2
returns-in-Err-take-2 g c =
    let piece = take c.in-Ok.n c.read.new.buf in
    runs-broken _ _ _ _ _ _ _ _ c.turns.invariant _ _ piece _ []
    (subst (Consumes (g.R.Read.remaining c.turns.reader) (g.R.Read.remaining c.read.new.self)) (sym (append-nil piece))
    c.in-Ok.ensures.bytes.0)
    (omega (arith, length-take c.in-Ok.n c.read.new.buf, c.if-left-n.false)) (λ some. absurd (some refl)) c.in-Err-take-2.fault
    c.in-Err-take-2.ensures.err

pub turns-preserved : goal.turns-preserved
turns-preserved g c =
    let piece = take c.in-Ok.n c.read.new.buf in
    come-more _ _ _ _ _ _ _ _ c.turns.invariant _ _ piece _ c.in-Ok-take-2.field-0 _ c.in-Ok-take-2.ensures.ok c.in-Ok.ensures.bytes.0
    c.in-Ok.n (omega (arith, c.in-Ok.ensures.bound.1)) (omega (arith, c.if-left-n.false))
    (λ wanted. c.take-in-Ok-2.ensures.rest (c.in-Ok-take-2.is ∙ ap Ok wanted)) c.in-Ok-take-2.ensures.empty c.in-Ok-take-2.ensures.few

-- the end of the script
pub returns-in-Ok-end : goal.returns-in-Ok-end
returns-in-Ok-end g c =
    let room : 0 < length c.read.new.buf = omega (arith, c.read.auto.buf, c.requires.room.0) in
    let both = read-end _ _ c.in-Ok-eq0.field-0 c.read.new.buf c.in-Ok-eq0.field-0-test room c.in-Ok-eq0.ensures.bytes in
    runs-ended _ _ _ _ _ _ _ _ c.turns.invariant _ both.0 both.1 _ c.in-Ok-end.ensures.ok c.flush.ensures.kept c.flush.result
    c.flush.ensures.err

-- the same, where the last line has no end
pub returns-in-Err-end : goal.returns-in-Err-end
returns-in-Err-end g c =
    let room : 0 < length c.read.new.buf = omega (arith, c.read.auto.buf, c.requires.room.0) in
    let both = read-end _ _ c.in-Ok-eq0.field-0 c.read.new.buf c.in-Ok-eq0.field-0-test room c.in-Ok-eq0.ensures.bytes in
    runs-unended _ _ _ _ _ _ _ _ c.turns.invariant _ both.0 both.1 c.in-Err-end.fault c.in-Err-end.ensures.some
    c.in-Err-end.ensures.line c.in-Err-end.ensures.reason
