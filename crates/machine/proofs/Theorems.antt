-- The theorems, from the lemmas. Assumes nothing.
use mathlib.Core.Path.{sym, ◌∙◌}
use Rattle.machine.specs.Theorems.{MakesTable, Ends, LeavesApart, Counts, Collects, GivesUp, EliminatesBySteps}
use Rattle.machine.proofs.Denotes.{step_keeps, start_denotes, finished_denotes}
use Rattle.machine.proofs.Ends.{makes, step_falls, no_work_finished}
use Rattle.machine.proofs.Outline.{questions-leaves, asked-leaves}
use Rattle.machine.proofs.Counting.{todo_start, todo_step, todo_finished, open_step, opened_and_todo, open_opened, collected_start, collected_step, collected_finished}
use Rattle.machine.proofs.Collected.{asked_grows, collected_grows}
use Rattle.machine.proofs.Elimination.{given_up_stays, thirteenth_asked, many_questions, thirteenth_collected, few_questions, collected_next, rows_answer}

pub makes_table : MakesTable
makes_table = record {
  step_keeps = step_keeps;
  start_denotes = λ leaf depth n ps. start_denotes leaf n depth ps;
  finished_denotes = finished_denotes;
  makes = makes;
}

pub machine_ends : Ends
machine_ends = record { step_falls = step_falls; no_work_finished = no_work_finished }

pub leaves_apart : LeavesApart
leaves_apart = record {
  same_questions = λ leaf other h k depth n ps. questions-leaves leaf h depth n ps ∙ sym (questions-leaves other k depth n ps);
  same_asked = λ leaf other h k depth n v ps qs. asked-leaves leaf h depth n v ps qs ∙ sym (asked-leaves other k depth n v ps qs);
}

pub counts : Counts
counts = record {
  todo_start = todo_start;
  todo_step = todo_step;
  todo_finished = todo_finished;
  open_step = open_step;
  opened_and_todo = opened_and_todo;
  open_opened = open_opened;
}

pub collects : Collects
collects = record {
  collected_start = collected_start;
  collected_step = collected_step;
  collected_finished = collected_finished;
  asked_grows = asked_grows;
  collected_grows = collected_grows;
}

pub gives_up : GivesUp
gives_up = record { given_up_stays = given_up_stays; thirteenth_asked = thirteenth_asked }

pub eliminates_by_steps : EliminatesBySteps
eliminates_by_steps = record {
  many_questions = many_questions;
  thirteenth_collected = thirteenth_collected;
  few_questions = few_questions;
  collected_next = collected_next;
  rows_answer = rows_answer;
}
