mod ManyLemmas
mod RoomLemmas
