-- What is promised of the scenario file and of turns, proved.
use Rattle.scenario.specs.Promise.{AcceptedIsFileOf, OneFile, FileOfIsAccepted, ReadThenWrite, WriteThenRead}
use Rattle.scenario.specs.Promise.{ReaderInOrder, WriterInOrder, ReaderPlace, WriterPlace, TurnCloses, OneTurn}
use Rattle.scenario.proofs.Accepted.{accepted-is-file_of, one_file}
use Rattle.scenario.proofs.Written.{file_of-is-accepted}
use Rattle.scenario.proofs.Composed.{read_then_write, write_then_read}
use Rattle.scenario.proofs.Places.{reader_in_order, writer_in_order, reader_place, writer_place}
use Rattle.scenario.proofs.Turns.{turn_closes, one_turn}

pub record Promises : Type 0 where
  pub accepted : AcceptedIsFileOf
  pub one : OneFile
  pub written : FileOfIsAccepted
  pub read_write : ReadThenWrite
  pub write_read : WriteThenRead
  pub reader_order : ReaderInOrder
  pub writer_order : WriterInOrder
  pub reader_place : ReaderPlace
  pub writer_place : WriterPlace
  pub closes : TurnCloses
  pub one_turn : OneTurn

pub promises : Promises
promises = record {
  accepted = accepted-is-file_of;
  one = one_file;
  written = file_of-is-accepted;
  read_write = read_then_write;
  write_read = write_then_read;
  reader_order = reader_in_order;
  writer_order = writer_in_order;
  reader_place = reader_place;
  writer_place = writer_place;
  closes = turn_closes;
  one_turn = one_turn;
}
