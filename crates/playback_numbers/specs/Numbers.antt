-- Document 01, "The player": what it prints of a record, as numbers.
use Rattle.std.specs.Prelude.{ℕ, ℤ, ◌≤◌, cond, ◌≡◌, List, length, leb, pos, Result, Ok, Err}
use Rattle.record.specs.Verdict.{Verdict}
use Rattle.record.specs.Record.{board, most_events, sources_of, heads_of, values_of}
use Rattle.record.specs.Questions.{read_verdict}
use Rattle.record.specs.Answers.{all_yes, stored}
use Rattle.pic.specs.Calls.{current_rank}
use Rattle.handlers.specs.declared.Machine.{Machine}
use Rattle.handlers.specs.Machines.{power_on_of}
use Rattle.handlers.specs.Calls.{margin_answer}
use Rattle.claims.specs.Play.{end_of, answers_of, refusals_of}
use Rattle.playback_numbers.specs.declared.Numbers as told
use Rattle.questions.specs.Numbers.{number_of}
use Rattle.record.specs.declared.Refused.{Refused}

-- Questions 1 to 7. The two lent arrays are the destination: 5 asks whether each of them has n places.
abbrev pub verdict_of : List ℕ → ℕ → ℕ → Verdict
verdict_of bytes answer_places refusal_places = read_verdict board bytes answer_places refusal_places

-- The machine that power-on with the record's N hands back.
abbrev pub start_of : List ℕ → Machine
start_of bytes = (power_on_of (sources_of bytes)).machine

-- What playing a record answers: the record's refusal and its place, 0 and 0 if it was accepted; N and n; and of the machine after all events, how many handlers are
-- open, current's rank and the margin.
pub record Numbers : Type 0 where
  pub refusal : ℕ
  pub place : ℕ
  pub sources : ℕ
  pub events : ℕ
  pub depth : ℕ
  pub level : ℕ
  pub margin : ℤ

-- Accepted: N and n; how many handlers are open; level, which is current's rank; and the margin.
abbrev pub accepted_with : ℕ → ℕ → Machine → Numbers
accepted_with n count m =
    record {
      refusal = 0;
      place = 0;
      sources = n;
      events = count;
      depth = m.service.depth;
      level = (current_rank m.controller).0;
      margin = (margin_answer m).margin;
    }

-- Refused: the number and a place, and 0 for all else.
abbrev pub refused_with : ℕ → ℕ → Numbers
refused_with number at = record { refusal = number; place = at; sources = 0; events = 0; depth = 0; level = 0; margin = pos 0 }

-- All of them, of each answer.
abbrev pub all_numbers : Result told.Numbers Refused → Numbers
all_numbers (Ok q) =
    record { refusal = 0; place = 0; sources = q.sources; events = q.events; depth = q.depth; level = q.level; margin = q.margin }
all_numbers (Err r) = refused_with (number_of r.refusal) r.place

-- The numbers of a record, for arrays with so many places.
unfoldable pub numbers_of : List ℕ → ℕ → ℕ → Numbers
numbers_of bytes answer_places refusal_places =
    cond
    (all_yes (verdict_of bytes answer_places refusal_places))
    (accepted_with (sources_of bytes) (length (heads_of bytes)) (end_of (start_of bytes) (heads_of bytes) (values_of bytes)))
    (refused_with (verdict_of bytes answer_places refusal_places).refusal (verdict_of bytes answer_places refusal_places).place)

-- What the events answer, and what they are refused with, in the first n places of the arrays; refused, both stay as they were.
abbrev pub answers_left : List ℕ → List ℕ → List ℕ → List ℕ
answers_left bytes answers refusals =
    stored (verdict_of bytes (length answers) (length refusals)) (answers_of (start_of bytes) (heads_of bytes) (values_of bytes)) answers

abbrev pub refusals_left : List ℕ → List ℕ → List ℕ → List ℕ
refusals_left bytes answers refusals =
    stored (verdict_of bytes (length answers) (length refusals)) (refusals_of (start_of bytes) (heads_of bytes) (values_of bytes)) refusals

-- A part of an array that serves for n places: it has no more places than any record needs, and room for k events just where n places have.
abbrev pub ServesFor : ℕ → ℕ → Type 0
ServesFor part n = (part ≤ most_events) × ((k : ℕ) → k ≤ most_events → leb k part ≡ leb k n)
