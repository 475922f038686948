use Rattle.alike_cores.proofs.Shown.{answers_alike, reads_alike}
use Rattle.alike_cores.proofs.laws.alike_cores_answer_alike.Goals as goal

pub returns-clause-reads : goal.returns-clause-reads
returns-clause-reads c to id number keeps kept s t history shows alike = reads_alike to id number keeps kept s t history shows alike

pub returns-clause-answers : goal.returns-clause-answers
returns-clause-answers c to id number keeps kept s t history shows alike collection tracker limits client new call =
    answers_alike to id number keeps kept s t history shows alike collection tracker limits client new call
